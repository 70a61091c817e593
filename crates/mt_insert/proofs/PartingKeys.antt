-- A put that parts the keys of its full border node may do so, and what it keeps then: for `part_with`, `part_without` and `split_move`.
use Rattle.std.proofs.Common.{◌≡◌, ◌≢◌, ◌⊎◌, ℕ, ◌-◌, ◌<◌, List, ◌++◌, length, set, Option, Some, None, refl, sym, ap, subst, ◌∙◌, inl, inr, arith}
use Rattle.std.proofs.{lemmas.Bool.cases_eq, lemmas.Option.same_Some, lemmas.List.length-set}
use Rattle.std.specs.{List.All, FinMap.get}
use Rattle.mt_slices.specs.Slices.{slice_of}
use Rattle.mt_rows.specs.Rows.{Columns}
use Rattle.mt_border.specs.Slots.{Slotted}
use Rattle.mt_border.specs.{declared.entry.Entry.Entry, Entries.with_entry, Split.IsParted, Contents.{owned, HasKey}}
use Rattle.mt_border.proofs.{Edits.any_entry, Parts.{All-left, All-right}, ContentsKeys.{new_has_key, new_is_entry}, ContentsEdits.each-publish}
use Rattle.mt_interior.specs.Fences.{end_of}
use Rattle.mt_arena.specs.{declared.tree.Standing.TheVariants.Live, NodeView.{NodeView, node_at}, Nodes.Holds, NodeFacts.IsUnstable, Forests.layer_of}
use Rattle.mt_arena.specs.{Lags.{Follows, IsUnder, AreChildren}, Ways.BelongsIn, Splits.{left_half, right_half}, Several.{AreHalved, MayPlace}}
use Rattle.mt_arena.specs.{Arena.{ArenaView, IsArena, content_of}, Accesses.{at, tree_of}}
use Rattle.mt_arena.proofs.{Pairs.{here, there}, Homes.begun, Slots.within_each, Elsewhere.layer_is, Owners.none_elsewhere}
use Rattle.mt_operation.specs.{declared.walk.Walk.Walk, declared.task.Task.Task, declared.prepared.Prepared.Prepared, declared.splits.Splits.Splits}
use Rattle.mt_descent.{specs.KeptWalks.GoesThrough, proofs.Ways.live_tree}
use Rattle.mt_insert.specs.Placing.{entry_of}
use Rattle.mt_insert.specs.KeptSplits.{last_of, HoldsSplits, IsAtSplitMove, AreParted, NothingLags, HasSplits, IsAtSplitPrev, IsAtLockParent, KeptSplit}
use Rattle.mt_insert.specs.SplitMove.{after_parting}

-- what is not some number is none
no_number : (o : Option ℕ) → (o ≢ None → ⊥) → o ≡ None
no_number None refuted = refl
no_number (Some k) refuted = absurd (refuted (λ e. absurd (cc)))

-- the nodes, of which one has kept some slots, and its right half has got others
module _ (xs : List NodeView) (i j : ℕ) (kept moved : List Entry) (kept_cells moved_cells : Slotted) (li : i < length xs) (lj : j < length xs) (differ : i ≢ j) where
  abbrev y : NodeView
  y = left_half (node_at xs i) kept kept_cells (node_at xs j).low j

  abbrev z : NodeView
  z = right_half (node_at xs i) (node_at xs j) moved moved_cells i

  abbrev halves : List NodeView
  halves = set (set xs i y) j z

  size : length halves ≡ length xs
  size = length-set (set xs i y) j z ∙ length-set xs i y

  at_left : node_at halves i ≡ y
  at_left = there (set xs i y) j i z differ ∙ here xs i y li

  at_right : node_at halves j ≡ z
  at_right = here (set xs i y) j z (omega (arith, lj, length-set xs i y))

  at_other : (k : ℕ) → k ≢ i → k ≢ j → node_at halves k ≡ node_at xs k
  at_other k ni nj = there (set xs i y) j k z nj ∙ there xs i k y ni

  -- the right half names the left one as the one before, and the others name whom they named
  follows_was : (a k : ℕ) → Follows halves a k → ((k ≡ j) × (a ≡ i)) ⊎ ((k ≢ j) × Follows xs a k)
  follows_was a k is = elim (cases_eq k j) [
    | inl same ↦ inl (same, same_Some _ _ (sym is.1 ∙ ap (λ (n : NodeView). n.previous) (ap (node_at halves) same ∙ at_right)))
    | inr nj ↦ inr (
      nj,
      elim (cases_eq k i) [
        | inl own ↦
            let new = ap (node_at halves) own ∙ at_left in
            subst (λ c. Follows xs a c) (sym own) (li, sym (ap (λ (n : NodeView). n.previous) new) ∙ is.1, sym (ap (λ (n : NodeView). n.version.deleted) new) ∙ is.2)
        | inr ni ↦
            let old = at_other k ni nj in
            (omega (arith, is.0, size), sym (ap (λ (n : NodeView). n.previous) old) ∙ is.1, sym (ap (λ (n : NodeView). n.version.deleted) old) ∙ is.2)
      ],
    )
  ]

  -- and no parent changes
  under_was : (a k : ℕ) → IsUnder halves a k → IsUnder xs a k
  under_was a k is = elim (cases_eq k j) [
    | inl same ↦
        let new = ap (node_at halves) same ∙ at_right in
        subst (λ c. IsUnder xs a c) (sym same) (lj, sym (ap (λ (n : NodeView). n.parent) new) ∙ is.1, sym (ap (λ (n : NodeView). n.version.deleted) new) ∙ is.2)
    | inr nj ↦ elim (cases_eq k i) [
      | inl own ↦
          let new = ap (node_at halves) own ∙ at_left in
          subst (λ c. IsUnder xs a c) (sym own) (li, sym (ap (λ (n : NodeView). n.parent) new) ∙ is.1, sym (ap (λ (n : NodeView). n.version.deleted) new) ∙ is.2)
      | inr ni ↦
          let old = at_other k ni nj in
          (omega (arith, is.0, size), sym (ap (λ (n : NodeView). n.parent) old) ∙ is.1, sym (ap (λ (n : NodeView). n.version.deleted) old) ∙ is.2)
    ]
  ]

  -- nor any holder
  holder_was : (k op : ℕ) → (node_at halves k).holder ≡ Some op → (node_at xs k).holder ≡ Some op
  holder_was k op is = elim (cases_eq k j) [
    | inl same ↦ subst (λ c. (node_at xs c).holder ≡ Some op) (sym same) (sym (ap (λ (n : NodeView). n.holder) (ap (node_at halves) same ∙ at_right)) ∙ is)
    | inr nj ↦ elim (cases_eq k i) [
      | inl own ↦ subst (λ c. (node_at xs c).holder ≡ Some op) (sym own) (sym (ap (λ (n : NodeView). n.holder) (ap (node_at halves) own ∙ at_left)) ∙ is)
      | inr ni ↦ sym (ap (λ (n : NodeView). n.holder) (at_other k ni nj)) ∙ is
    ]
  ]

module _ (v : ArenaView) (op : ℕ) (task : Task) (prepared : Prepared) (w : Walk) (s : Splits) (arena : IsArena v.nodes v.trees) (h : IsAtSplitMove v op task prepared w s) where
  abbrev l : ℕ
  l = (last_of s).left

  abbrev q : ℕ
  q = (last_of s).right

  abbrev x : NodeView
  x = at v l

  abbrev r : NodeView
  r = at v q

  ll : l < length v.nodes
  ll = h.may.half.held.there

  lq : q < length v.nodes
  lq = h.may.half.right_held.there

  through : GoesThrough v x.tree w.layer task.key
  through = subst (λ k. GoesThrough v (at v k).tree w.layer task.key) (sym h.border) h.through

  -- the tree is live
  pub live_here : (tree_of v l).standing ≡ Live
  live_here = live_tree v x.tree w.layer l task.key arena through ll refl h.may.half.live

  -- the key belongs in the left node
  belongs_here : BelongsIn v.nodes v.trees task.key w.layer l
  belongs_here = record {
    border = record { there = ll; live = h.may.half.live; level = h.may.border; tree_is = refl };
    tree_live = live_here;
    of_tree = through.of_tree;
    begun = through.begun;
    holds = subst (λ k. Holds (at v k) (slice_of task.key w.layer)) (sym h.border) h.belongs;
  }

  -- the contents have none for it
  pub none_here : get (content_of v) (owned task.key) ≡ None
  none_here = none_elsewhere v.nodes v.trees arena (begun v.nodes v.trees arena.forest) task.key w.layer l belongs_here h.may.missing

  layer_here : layer_of (tree_of v l).prefix ≡ w.layer
  layer_here = layer_is (tree_of v l).prefix task.key w.layer belongs_here.of_tree

  -- and its pair may be put into one of the halves
  pub may_place : (row : Columns) (step : ℕ) → MayPlace v l op task.key (entry_of task.key w.layer row step)
  may_place row step = record {
    belongs = subst (λ layer. BelongsIn v.nodes v.trees task.key layer l) (sym layer_here) belongs_here;
    has =
        subst (λ layer. HasKey (tree_of v l).prefix layer (entry_of task.key w.layer row step) task.key) (sym layer_here) (new_has_key (tree_of v l).prefix w.layer task.key row step belongs_here.of_tree);
    entry = new_is_entry task.key w.layer row step;
    stable = tt;
  }

  -- the right half names none as its next one
  right_last : r.next ≡ None
  right_last =
      no_number r.next (λ some. absurd (omega (arith, (arena.ranged.each q lq).next some, (arena.nodes.each q lq).reach.within, ap end_of h.may.half.right_reach)))

  module _ (all kept moved : List Entry) (kept_cells moved_cells : Slotted) (stable : All (λ (e : Entry). ¬ IsUnstable e.held) all) (inside : All (λ (e : Entry). Holds x e.slice) all) (parted : IsParted all kept moved r.low) (some_kept : 0 < length kept) (some_moved : 0 < length moved) where
    abbrev both : List NodeView
    both = halves v.nodes l q kept moved kept_cells moved_cells ll lq h.may.half.differ

    abbrev after : ArenaView
    after = record v { nodes = both }

    count : length both ≡ length v.nodes
    count = size v.nodes l q kept moved kept_cells moved_cells ll lq h.may.half.differ

    at_l : node_at both l ≡ left_half x kept kept_cells r.low q
    at_l = at_left v.nodes l q kept moved kept_cells moved_cells ll lq h.may.half.differ

    at_q : node_at both q ≡ right_half x r moved moved_cells l
    at_q = at_right v.nodes l q kept moved kept_cells moved_cells ll lq h.may.half.differ

    inside_both : All (λ (e : Entry). Holds x e.slice) (kept ++ moved)
    inside_both = subst (All (λ (e : Entry). Holds x e.slice)) (sym parted.joined) inside

    stable_both : All (λ (e : Entry). ¬ IsUnstable e.held) (kept ++ moved)
    stable_both = subst (All (λ (e : Entry). ¬ IsUnstable e.held)) (sym parted.joined) stable

    above_here : x.low < r.low
    above_here = omega (arith, (All-left (λ (e : Entry). Holds x e.slice) kept moved inside_both 0 any_entry some_kept).0, parted.below 0 any_entry some_kept)

    below_here : r.low < end_of x.high
    below_here =
        omega (arith, (All-right (λ (e : Entry). Holds x e.slice) kept moved inside_both 0 any_entry some_moved).1, parted.above 0 any_entry some_moved)

    are_parted : AreParted after op 0 l q
    are_parted = record {
      left = record {
        held = record { there = omega (arith, ll, count); holder = rw at_l h.may.half.held.holder };
        level_is = rw at_l h.may.border;
        live = rw at_l h.may.half.live;
        marked = rw at_l h.may.half.marked;
        stable = rw at_l (All-left (λ (e : Entry). ¬ IsUnstable e.held) kept moved stable_both);
      };
      right = record {
        held = record { there = omega (arith, lq, count); holder = rw at_q h.may.half.right_held.holder };
        level_is = rw at_q (h.may.half.right_level ∙ h.may.border);
        live = rw at_q h.may.half.right_live;
        marked = rw at_q h.may.half.right_marked;
        stable = rw at_q (All-right (λ (e : Entry). ¬ IsUnstable e.held) kept moved stable_both);
      };
      differ = h.may.half.differ;
      tree_there = rw at_l (arena.forest.tree_there l ll);
      mine = rw at_l h.may.half.mine;
      tree = rw (at_l, at_q) h.may.half.right_tree;
      no_root = rw at_q h.may.half.no_root;
      fence = rw (at_l, at_q) refl;
      reach = rw (at_l, at_q) refl;
      exact = rw at_q h.unparted.reach;
      above = rw (at_l, at_q) above_here;
      below = rw (at_l, at_q) (subst (λ e. r.low < end_of e) (sym h.unparted.reach) below_here);
      rooted = rw at_l h.unparted.rooted;
    }

    has_splits : HasSplits after op s
    has_splits = record {
      some = omega (arith, h.one);
      lower = λ i lt. absurd (omega (arith, lt, h.one));
      parted = subst (λ n. AreParted after op (n - 1) l q) (sym h.one) are_parted;
    }

    -- who named the left node as the one before does so still, beside the right half
    followers : (k : ℕ) → Follows both l k → (k ≡ q) ⊎ (x.next ≡ Some k)
    followers k is = elim (follows_was v.nodes l q kept moved kept_cells moved_cells ll lq h.may.half.differ l k is) [
      | inl right ↦ inl right.0
      | inr old ↦ h.unparted.followers k old.1
    ]

    children : AreChildren both l (at after l)
    children k is = rw at_l (h.unparted.children k (under_was v.nodes l q kept moved kept_cells moved_cells ll lq h.may.half.differ l k is))

    right_lags : NothingLags both q
    right_lags = record {
      followers = λ k is. elim (follows_was v.nodes l q kept moved kept_cells moved_cells ll lq h.may.half.differ q k is) [
        | inl right ↦ absurd (h.may.half.differ (sym right.1))
        | inr old ↦ absurd (let some = sym right_last ∙ h.unparted.right.followers k old.1 in cc)
      ];
      children = λ k is. rw at_q (h.unparted.right.children k (under_was v.nodes l q kept moved kept_cells moved_cells ll lq h.may.half.differ q k is));
    }

    -- a node behind names the left one still
    at_prev : (behind : ℕ) → x.next ≡ Some behind → IsAtSplitPrev after op s
    at_prev behind next = record {
      splits = has_splits;
      one = h.one;
      above = h.above;
      moved = h.moved;
      orphan = rw at_q h.orphan;
      next = rw at_l refl;
      some_next = rw at_q (λ none. absurd (let both = sym next ∙ none in cc));
      followers = λ k is. rw at_q (followers k is);
      children = children;
      right = right_lags;
    }

    -- there is none behind
    at_parent : x.next ≡ None → IsAtLockParent after op s
    at_parent none = record {
      named = record {
        splits = has_splits;
        left = record {
          followers = λ k is. elim (followers k is) [
            | inl right ↦ rw (at_l, right) refl
            | inr next ↦ absurd (let both = sym none ∙ next in cc)
          ];
          children = children;
        };
        right = right_lags;
      };
      above = h.above;
      moved = h.moved;
      orphan = rw at_q h.orphan;
    }

    by_next : (next : Option ℕ) → x.next ≡ next → KeptSplit (after_parting next) after op s
    by_next None is = at_parent is
    by_next (Some behind) is = at_prev behind is

    halves_held : HoldsSplits v op s → HoldsSplits after op s
    halves_held holds k within holder = holds k (omega (arith, within, count)) (holder_was v.nodes l q kept moved kept_cells moved_cells ll lq h.may.half.differ k op holder)

  -- the slots of the walk's node, which is the left one
  stable_slots : All (λ (e : Entry). ¬ IsUnstable e.held) (at v w.place.node).slots
  stable_slots = subst (λ k. All (λ (e : Entry). ¬ IsUnstable e.held) (at v k).slots) h.border h.unparted.stable

  slots_inside : All (λ (e : Entry). Holds x e.slice) (at v w.place.node).slots
  slots_inside = subst (λ k. All (λ (e : Entry). Holds x e.slice) (at v k).slots) h.border (within_each x x.slots (arena.nodes.each l ll).slots.within)

  module _ (all : List Entry) (new : ArenaView) (alone : new ≡ record v { nodes = new.nodes }) (halved : AreHalved all v.nodes new.nodes w.place.node q) (stable : All (λ (e : Entry). ¬ IsUnstable e.held) all)
      (inside : All (λ (e : Entry). Holds x e.slice) all) where
    left_halved : AreHalved all v.nodes new.nodes l q
    left_halved = subst (λ k. AreHalved all v.nodes new.nodes k q) (sym h.border) halved

    is_after : new ≡ record v { nodes = halves v.nodes l q left_halved.kept left_halved.moved left_halved.kept_cells left_halved.moved_cells ll lq h.may.half.differ }
    is_after = alone ∙ ap (λ (nodes : List NodeView). record v { nodes = nodes }) left_halved.is

    kept_parted : KeptSplit (after_parting (at v w.place.node).next) new op s
    kept_parted =
        subst (λ k. KeptSplit (after_parting (at v k).next) new op s) h.border
        (subst (λ (a : ArenaView). KeptSplit (after_parting x.next) a op s) (sym is_after)
        (by_next all left_halved.kept left_halved.moved left_halved.kept_cells left_halved.moved_cells stable inside left_halved.parted left_halved.some_kept left_halved.some_moved x.next refl))

    holds_parted : HoldsSplits v op s → HoldsSplits new op s
    holds_parted holds =
        subst (λ (a : ArenaView). HoldsSplits a op s) (sym is_after)
        (halves_held all left_halved.kept left_halved.moved left_halved.kept_cells left_halved.moved_cells stable inside left_halved.parted left_halved.some_kept left_halved.some_moved holds)

  -- what is kept and held where the keys were parted alone
  pub kept_without : (new : ArenaView) → new ≡ record v { nodes = new.nodes } → AreHalved (at v w.place.node).slots v.nodes new.nodes w.place.node q
      → KeptSplit (after_parting (at v w.place.node).next) new op s × (HoldsSplits v op s → HoldsSplits new op s)
  kept_without new alone halved =
      let all = (at v w.place.node).slots in
      (kept_parted all new alone halved stable_slots slots_inside, holds_parted all new alone halved stable_slots slots_inside)

  -- and where the pair was placed with them
  pub kept_with : (row : Columns) (step : ℕ) (new : ArenaView) → new ≡ record v { nodes = new.nodes }
      → AreHalved (with_entry (at v w.place.node).slots (entry_of task.key w.layer row step)) v.nodes new.nodes w.place.node q
      → KeptSplit (after_parting (at v w.place.node).next) new op s × (HoldsSplits v op s → HoldsSplits new op s)
  kept_with row step new alone halved =
      let e = entry_of task.key w.layer row step in
      let all = with_entry (at v w.place.node).slots e in
      let stable = each-publish (λ (e : Entry). ¬ IsUnstable e.held) (at v w.place.node).slots e stable_slots (λ unstable. unstable) in
      let inside = each-publish (λ (e : Entry). Holds x e.slice) (at v w.place.node).slots e slots_inside belongs_here.holds in
      (kept_parted all new alone halved stable inside, holds_parted all new alone halved stable inside)
