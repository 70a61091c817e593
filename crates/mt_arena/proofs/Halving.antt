-- The whole invariant, the guarantee and the contents where the slots of a border node are parted, with a new key's or without: for the
-- call that does it.
use Rattle.mt_arena.specs.Guarantee.{LosesHeld}
use Rattle.mt_border.specs.Slots.{Slotted}
use Rattle.std.proofs.Common.{◌≡◌, ◌≢◌, ◌⊎◌, ℕ, ◌+◌, ◌-◌, ◌<◌, ◌≤◌, List, ◌++◌, length, take, drop, get_or, set, Option, Some, None, IfSome, refl, sym, ap, subst, ◌∙◌, inl, inr, arith, length-append}
use Rattle.std.proofs.{lemmas.Bool.cases_lt, lemmas.Option.same_Some}
use Rattle.std.proofs.lemmas.List.{length-set, get_or-map, get_or_append_left, get_or-append-add, take_at, drop_at}
use Rattle.std.specs.List.{All}
use Rattle.mt_slices.specs.{declared.mark.Mark.Mark, declared.mark.Mark.TheVariants.Short}
use Rattle.mt_rows.specs.Rows.{Bytes}
use Rattle.mt_border.specs.{declared.entry.Entry.Entry, Held.{Pair, Stable}, Entry.{IsEntry, order_of, pair_of}, Entries.{IsBorder, orders, slices, place_in}}
use Rattle.mt_border.specs.{Split.IsParted, Contents.{HasKey, owned, row_of}}
use Rattle.mt_border.proofs.{Edits.{any_entry, place_in-le, All-insert, border_take, border_drop, orders-insert, rising_with}, Parts.{All-left, All-right}}
use Rattle.mt_border.proofs.ContentsEdits.{keys-publish, length-publish}
use Rattle.mt_lists.specs.Rising.{IsRising}
use Rattle.mt_interior.specs.Fences.{end_of}
use Rattle.mt_arena.specs.{declared.tree.Tree.Tree, Idle.{RetiredPlaces, Rooms}, NodeView.{NodeView, node_at}, Nodes.Holds}
use Rattle.mt_arena.specs.{Forests.{HaveKeys, tree_at, layer_of}, Contents.content, Ways.{AreBegun, IsUnfilled}, declared.tree.Standing.TheVariants.Live}
use Rattle.mt_arena.specs.{Invariant.ArenaInvariant, Arena.{ArenaView, Guarantee}, Accesses.{at, tree_of}, Splits.{Splits, with_some, left_half, right_half}}
use Rattle.mt_arena.specs.Several.{IsHalf, MaySplit, MayPlace, AreHalved}
use Rattle.mt_arena.proofs.{LinkEdits.{HasSlot, HasLinksOf, same_links, links_insert, links_insert_back}, Homes.begun, Locks.is_held, Steps.keys_of}
use Rattle.mt_arena.proofs.{Slots.{within_each, no_link, begun_mark}, SplitStep.{sound_split, guarantee_split}, Naming.{names_same, points_each, each_set2}}
use Rattle.mt_arena.proofs.{Halves.{halved, parted_as_were}, Guarantees.{PointsSo, lost_none}}
use Rattle.std.specs.FinMap as finite

-- links of links
links_on : (a b c : List Entry) → HasLinksOf a b → HasLinksOf b c → HasLinksOf a c
links_on a b c ab bc j u lt is =
    let one = bc j u lt is in
    let two = ab one.slot u one.in_range one.is in
    record { slot = two.slot; in_range = two.in_range; is = two.is; slice_is = two.slice_is ∙ one.slice_is }

links_left : (l r : List Entry) → HasLinksOf (l ++ r) l
links_left l r j u lt is =
    let same = get_or_append_left l r any_entry j lt in
    record { slot = j; in_range = omega (arith, lt, length-append l r); is = ap (λ (x : Entry). x.held) same ∙ is; slice_is = ap (λ (x : Entry). x.slice) same }

links_right : (l r : List Entry) → HasLinksOf (l ++ r) r
links_right l r j u lt is =
    let same = get_or-append-add l r j any_entry in
    record { slot = length l + j; in_range = omega (arith, lt, length-append l r); is = ap (λ (x : Entry). x.held) same ∙ is; slice_is = ap (λ (x : Entry). x.slice) same }

-- a link is in one of two parts
slot_parted : (l r : List Entry) (u slice : ℕ) → HasSlot (l ++ r) u slice → HasSlot l u slice ⊎ HasSlot r u slice
slot_parted l r u slice h = elim (cases_lt h.slot (length l)) [
  | inl low ↦
      let same = get_or_append_left l r any_entry h.slot low in
      inl (record { slot = h.slot; in_range = low; is = ap (λ (x : Entry). x.held) (sym same) ∙ h.is; slice_is = ap (λ (x : Entry). x.slice) (sym same) ∙ h.slice_is })
  | inr high ↦
      let same : get_or (l ++ r) h.slot any_entry ≡ get_or r (h.slot - length l) any_entry = ap (λ k. get_or (l ++ r) k any_entry) {x = h.slot} {y = length l + (h.slot - length l)} (omega (arith, high)) ∙ get_or-append-add l r (h.slot - length l) any_entry in
      inr (record { slot = h.slot - length l; in_range = omega (arith, high, h.in_range, length-append l r); is = ap (λ (x : Entry). x.held) (sym same) ∙ h.is; slice_is = ap (λ (x : Entry). x.slice) (sym same) ∙ h.slice_is })
]

-- slots that may stand in a node and its right half together
pub record Gathers (trees : List Tree) (x : NodeView) (all : List Entry) : Type 0 where
  pub few : length all ≤ 16
  pub rising : IsRising (orders all)
  pub each : All IsEntry all
  pub inside : All (λ (e : Entry). Holds x e.slice) all
  pub keys : HaveKeys (tree_at trees x.tree).prefix all
  pub forth : HasLinksOf all x.slots
  pub back : HasLinksOf x.slots all

-- those of a node, and those with one key more
pub gathers_same : (xs : List NodeView) (trees : List Tree) (gone : RetiredPlaces) (room : Rooms) (i : ℕ) → i < length xs → ArenaInvariant xs trees gone room
    → Gathers trees (node_at xs i) (node_at xs i).slots
gathers_same xs trees gone room i within sound =
    let x = node_at xs i in
    let h = sound.arena.nodes.each i within in
    record {
      few = omega (arith, h.slots.border.within);
      rising = h.slots.border.rising;
      each = h.slots.border.each;
      inside = within_each x x.slots h.slots.within;
      keys = keys_of xs trees i within sound.arena.forest;
      forth = same_links x.slots;
      back = same_links x.slots;
    }

-- the key's entry, where there is one, may come in
abbrev pub MayCome : ArenaView → ℕ → ℕ → ℕ → Mark → Option Entry → Type 0
MayCome v left op slice mark entry = IfSome entry (λ e. (e.slice ≡ slice) × (e.mark ≡ mark) × ((key : Bytes) × MayPlace v left op key e))

-- the slots of a node, with one more entry where there is one, are what both halves hold together
pub gathers_some : (v : ArenaView) (room : Rooms) (left right op slice : ℕ) (mark : Mark) (entry : Option Entry) → ArenaInvariant v.nodes v.trees v.retired room
    → MaySplit v left right op slice mark → MayCome v left op slice mark entry → Gathers v.trees (at v left) (with_some (at v left).slots entry)
gathers_some v room left right op slice mark None sound may come = gathers_same v.nodes v.trees v.retired room left may.half.held.there sound
gathers_some v room left right op slice mark (Some e) sound may (slice_is, mark_is, (key, place)) =
    let x = at v left in
    let layer = layer_of (tree_of v left).prefix in
    let was = gathers_same v.nodes v.trees v.retired room left may.half.held.there sound in
    let p = place_in x.slots (order_of e) in
    let le = place_in-le x.slots (order_of e) in
    let border = (sound.arena.nodes.each left may.half.held.there).slots.border in
    record {
      few = omega (arith, may.full, length-publish x.slots e);
      rising = rw (orders-insert x.slots p e) (rising_with x.slots e.slice e.mark border place.entry.mark (rw (slice_is, mark_is) may.missing));
      each = All-insert IsEntry x.slots p e was.each place.entry;
      inside = All-insert (λ (e : Entry). Holds x e.slice) x.slots p e was.inside (subst (Holds x) (sym place.has.slice) place.belongs.holds);
      keys = record {
        keys = keys-publish (tree_of v left).prefix layer x.slots e key was.keys.keys place.has;
        begun =
            All-insert (λ (e : Entry). e.mark ≢ Short 0) x.slots p e was.keys.begun (λ none. begun_mark key layer place.belongs.begun (sym place.has.mark ∙ none));
      };
      forth = links_insert x.slots p e le;
      back = links_insert_back x.slots p e le (no_link e.held place.stable);
    }

-- slices entry by entry
each_slice : (P : ℕ → Type 0) (es : List Entry) → All (λ (e : Entry). P e.slice) es → (i : ℕ) → i < length es → P (get_or (slices es) i 0)
each_slice P es each i lt = subst P (sym (get_or-map (λ (e : Entry). e.slice) es i any_entry 0 lt)) (each i any_entry lt)

module _ (v : ArenaView) (room : Rooms) (left right op : ℕ) (all kept moved : List Entry) (kept_cells moved_cells : Slotted) (sound : ArenaInvariant v.nodes v.trees v.retired room) (half : IsHalf v left right op) (border : (at v left).level ≡ 0) (ok : Gathers v.trees (at v left) all)
    (parted : IsParted all kept moved (at v right).low) (some_kept : 0 < length kept) (some_moved : 0 < length moved) where
  abbrev x : NodeView
  x = at v left

  abbrev r : NodeView
  r = at v right

  abbrev new : List NodeView
  new = set (set v.nodes left (left_half x kept kept_cells r.low right)) right (right_half x r moved moved_cells left)

  size : length kept + length moved ≤ 16
  size = omega (arith, ok.few, ap length parted.joined, length-append kept moved)

  inside : All (λ (e : Entry). Holds x e.slice) (kept ++ moved)
  inside = subst (All (λ (e : Entry). Holds x e.slice)) (sym parted.joined) ok.inside

  inside_kept : All (λ (e : Entry). Holds x e.slice) kept
  inside_kept = All-left (λ (e : Entry). Holds x e.slice) kept moved inside

  inside_moved : All (λ (e : Entry). Holds x e.slice) moved
  inside_moved = All-right (λ (e : Entry). Holds x e.slice) kept moved inside

  is_kept : take (length kept) all ≡ kept
  is_kept = ap (take (length kept)) (sym parted.joined) ∙ take_at kept moved (length kept) refl

  is_moved : drop (length kept) all ≡ moved
  is_moved = ap (drop (length kept)) (sym parted.joined) ∙ drop_at kept moved (length kept) refl

  splits : Splits x r kept moved
  splits = record {
    held = is_held op x half.held.holder;
    marked = half.marked;
    live = half.live;
    border = border;
    right_held = is_held op r half.right_held.holder;
    right_marked = half.right_marked;
    right_live = half.right_live;
    right_tree = half.right_tree;
    right_level = half.right_level;
    right_reach = half.right_reach;
    above = omega (arith, (inside_kept 0 any_entry some_kept).0, parted.below 0 any_entry some_kept);
    below = omega (arith, (inside_moved 0 any_entry some_moved).1, parted.above 0 any_entry some_moved);
    kept_border = subst IsBorder is_kept (border_take all (length kept) ok.rising ok.each (omega (arith, size, some_moved)));
    moved_border = subst IsBorder is_moved (border_drop all (length kept) ok.rising ok.each (omega (arith, ok.few, some_kept)));
    kept_within = λ i lt. (
      each_slice (λ s. x.low ≤ s) kept (λ k d lt. (inside_kept k d lt).0) i lt,
      each_slice (λ s. s < r.low) kept parted.below i lt,
    );
    moved_within = λ i lt. (
      each_slice (λ s. r.low ≤ s) moved parted.above i lt,
      each_slice (λ s. s < end_of x.high) moved (λ k d lt. (inside_moved k d lt).1) i lt,
    );
  }

  keys_all : HaveKeys (tree_at v.trees x.tree).prefix (kept ++ moved)
  keys_all = subst (HaveKeys (tree_at v.trees x.tree).prefix) (sym parted.joined) ok.keys

  keys_kept : HaveKeys (tree_at v.trees x.tree).prefix kept
  keys_kept = record {
    keys = All-left (λ e. (key : Bytes) × HasKey (tree_at v.trees x.tree).prefix (layer_of (tree_at v.trees x.tree).prefix) e key) kept moved keys_all.keys;
    begun = All-left (λ (e : Entry). e.mark ≢ Short 0) kept moved keys_all.begun;
  }

  keys_moved : HaveKeys (tree_at v.trees x.tree).prefix moved
  keys_moved = record {
    keys = All-right (λ e. (key : Bytes) × HasKey (tree_at v.trees x.tree).prefix (layer_of (tree_at v.trees x.tree).prefix) e key) kept moved keys_all.keys;
    begun = All-right (λ (e : Entry). e.mark ≢ Short 0) kept moved keys_all.begun;
  }

  pub sound_halved : ArenaInvariant new v.trees v.retired room
  sound_halved =
      sound_split v.nodes v.trees left right kept moved kept_cells moved_cells half.held.there half.right_held.there half.differ splits v.retired room sound half.empty half.no_root
      keys_kept (subst (λ t. HaveKeys (tree_at v.trees t).prefix moved) (sym half.right_tree) keys_moved)
      (links_on x.slots all kept ok.back (subst (λ (es : List Entry). HasLinksOf es kept) parted.joined (links_left kept moved)))
      (links_on x.slots all moved ok.back (subst (λ (es : List Entry). HasLinksOf es moved) parted.joined (links_right kept moved)))
      (λ a u lt is. slot_parted kept moved u (get_or x.slots a any_entry).slice (subst (λ (es : List Entry). HasSlot es u (get_or x.slots a any_entry).slice) (sym parted.joined) (ok.forth a u lt is)))

  still_held : (node_at new left).holder ≡ Some op
  still_held =
      each_set2 (λ k n. k ≡ left → n.holder ≡ Some op) v.nodes left right (left_half x kept kept_cells r.low right) (right_half x r moved moved_cells left) half.held.there half.right_held.there half.differ
      (λ _. half.held.holder) (λ e. absurd (half.differ (sym e))) (λ k lt ni nj e. absurd (ni e)) left half.held.there refl

  pub step_halved : Guarantee op v (record v { nodes = new })
  step_halved = record {
    nodes =
        guarantee_split v.nodes v.trees left right kept moved kept_cells moved_cells half.held.there half.right_held.there half.differ splits op half.held.holder half.right_held.holder sound.arena.forest half.mine;
    points =
        points_each op v.nodes new (length-set (set v.nodes left (left_half x kept kept_cells r.low right)) right (right_half x r moved moved_cells left) ∙ length-set v.nodes left (left_half x kept kept_cells r.low right))
        (each_set2 (λ k n. PointsSo op new (at v k) n) v.nodes left right (left_half x kept kept_cells r.low right) (right_half x r moved moved_cells left) half.held.there half.right_held.there half.differ
        (names_same op new x (left_half x kept kept_cells r.low right) refl refl)
        (record {
          previous = λ j e not_mine. absurd (not_mine (ap (λ k. (node_at new k).holder) (sym (same_Some _ _ e)) ∙ still_held));
          parent = λ j e not_mine. e;
        })
        (λ k lt ni nj. names_same op new (at v k) (at v k) refl refl));
    lost = each_set2 (λ k n. LosesHeld (at v k) n) v.nodes left right (left_half x kept kept_cells r.low right) (right_half x r moved moved_cells left) half.held.there half.right_held.there half.differ
        (λ whole. absurd (let both = sym half.marked ∙ whole in cc)) (λ whole. absurd (let both = sym half.right_marked ∙ whole in cc)) (λ k lt ni nj. lost_none (at v k));
  }

-- the right half is a node without slots of the same tree
unfilled : (v : ArenaView) (left right op : ℕ) → IsHalf v left right op → IsUnfilled v.nodes left right
unfilled v left right op half = record { other = half.differ; there = half.right_held.there; live = half.right_live; tree = half.right_tree; empty = half.empty }

-- what a split leaves, with the key's entry or without
module _ (v : ArenaView) (room : Rooms) (left right op slice : ℕ) (mark : Mark) (entry : Option Entry) (new : List NodeView)
    (sound : ArenaInvariant v.nodes v.trees v.retired room) (may : MaySplit v left right op slice mark) (come : MayCome v left op slice mark entry)
    (done : AreHalved (with_some (at v left).slots entry) v.nodes new left right) where
  gathers : Gathers v.trees (at v left) (with_some (at v left).slots entry)
  gathers = gathers_some v room left right op slice mark entry sound may come

  abbrev layer : ℕ
  layer = layer_of (tree_of v left).prefix

  starts : AreBegun v.nodes
  starts = begun v.nodes v.trees sound.arena.forest

  pub sound_parted : ArenaInvariant new v.trees v.retired room
  sound_parted = rw done.is
      (sound_halved v room left right op _ done.kept done.moved done.kept_cells done.moved_cells sound may.half may.border gathers done.parted done.some_kept done.some_moved)

  pub step_parted : Guarantee op v (record v { nodes = new })
  step_parted = rw done.is
      (step_halved v room left right op _ done.kept done.moved done.kept_cells done.moved_cells sound may.half may.border gathers done.parted done.some_kept done.some_moved)

  -- an entry inserts its pair
  pub content_with : (key : Bytes) (e : Entry) (pair : Pair) → entry ≡ Some e → MayPlace v left op key e → e.held ≡ Stable pair
      → content v.trees new ≡ finite.insert (content v.trees v.nodes) (owned key) (row_of pair)
  content_with key e pair some place is =
      let (slice_is, mark_is, _) = rw some at come in
      rw done.is
      (halved v.nodes v.trees sound.arena starts key layer left right place.belongs (unfilled v left right op may.half) _ _ done.kept done.moved _ e pair
      place.has (rw (slice_is, mark_is) may.missing) (ap pair_of is) (rw some at done.parted)
      (record { slots = refl; deleted = refl; tree = refl }) (record { slots = refl; deleted = refl; tree = refl }))

  -- and without one the contents stay
  pub content_without : (tree_of v left).standing ≡ Live → entry ≡ None → content v.trees new ≡ content v.trees v.nodes
  content_without live none =
      rw done.is
      (parted_as_were v.nodes v.trees sound.arena starts layer left right may.half.held.there may.half.live live (unfilled v left right op may.half)
      (keys_of v.nodes v.trees left may.half.held.there sound.arena.forest).keys _ _ done.kept done.moved _
      (record { slots = refl; deleted = refl; tree = refl }) (record { slots = refl; deleted = refl; tree = refl }) (rw none at done.parted))
