-- The whole invariant, the guarantee and the contents where a key is published, stored or dropped: for the calls of these names.
use Rattle.std.proofs.Common.{◌≡◌, ◌≢◌, ℕ, ◌*◌, ◌<◌, List, length, get_or, set, Bool, true, false, Some, None, refl, sym, ap, subst, ◌∙◌, arith}
use Rattle.std.proofs.{lemmas.List.{length-drop, length-set, get_or-map, get_or_default}, lemmas.List.Elements.All-set}
use Rattle.std.specs.{Prelude.{if◌then◌else◌, nat_le}, List.{All, remove}}
use Rattle.mt_version.proofs.Aging.{ages-marked_inserting}
use Rattle.mt_slices.specs.{declared.mark.Mark.TheVariants.{Short, Long}, Marks.{mark_rank as rank}, Slices.{mark_of, rest_of}}
use Rattle.mt_rows.specs.Rows.{Bytes, Columns}
use Rattle.mt_border.specs.{declared.entry.Entry.Entry, Held.{Pair, Held, Stable, Unstable, Link}, Entry.{IsEntry, IsStablePair, CanHold, order_of, pair_of}}
use Rattle.mt_border.specs.{Slots.Slotted, Entries.{IsBorder, IsMissing, slices, place_in, with_entry, without, replaced}, Contents.{HasKey, owned, row_of}}
use Rattle.mt_border.proofs.Edits.{any_entry, place_in-le, All-insert, All-remove, border_with_entry, border_without, border_set, without_at, replaced_at}
use Rattle.mt_border.specs.Keeps.{HasEntry, KeepsEntries, LosesOnly}
use Rattle.mt_border.proofs.KeptEntries.{entries_none}
use Rattle.mt_border.proofs.{ContentsKeys.has_rewritten_key, ContentsEdits.keys-publish}
use Rattle.mt_arena.specs.{declared.tree.Tree.Tree, Idle.{RetiredPlaces, Rooms}, NodeView.{NodeView, node_at, place_at}, NodeFacts.IsUnstable, Nodes.Holds, Layers.slot_at}
use Rattle.mt_arena.specs.{Forests.{HaveKeys, tree_at, layer_of}, Guarantee.{Changes, LosesHeld}, Edits.{inserting, with_slots, cells_with, cells_holding, cells_without}, Invariant.ArenaInvariant, Arena.{ArenaView, Guarantee}}
use Rattle.mt_arena.specs.{Contents.content, Accesses.{at, tree_of, IsOpen, with_node, with_row, MayPublish, MayChange}}
use Rattle.mt_arena.proofs.{Quiet.nodes_slots, Ranged.ranged_marked, Homes.{begun, live_keys}, Owners.{published, stored, dropped}}
use Rattle.mt_arena.proofs.LinkEdits.{HasLinksOf, links_insert, links_insert_back, links_set, links_set_back, links_remove, links_remove_back}
use Rattle.mt_arena.proofs.{Locks.{not_others, is_held}, Steps.{sound_set, keys_of, step_set}}
use Rattle.std.specs.FinMap as finite
use Rattle.mt_version.proofs.CallerLemmas as versions

-- slots that lie within the fences, entry by entry
pub within_each : (n : NodeView) (es : List Entry) → ((i : ℕ) → i < length es → Holds n (get_or (slices es) i 0)) → All (λ (e : Entry). Holds n e.slice) es
within_each n es inside k d lt = subst (Holds n) (get_or-map (λ (e : Entry). e.slice) es k d 0 lt) (inside k lt)

-- and back
pub within_all : (n : NodeView) (es : List Entry) → All (λ (e : Entry). Holds n e.slice) es → (i : ℕ) → i < length es → Holds n (get_or (slices es) i 0)
within_all n es each i lt = subst (Holds n) (sym (get_or-map (λ (e : Entry). e.slice) es i any_entry 0 lt)) (each i any_entry lt)

-- what a change of slots needs
pub record MayHold (trees : List Tree) (x : NodeView) (slots : List Entry) : Type 0 where
  pub border : IsBorder slots
  pub inside : All (λ (e : Entry). Holds x e.slice) slots
  pub keys : HaveKeys (tree_at trees x.tree).prefix slots
  pub forth : HasLinksOf slots x.slots
  pub back : HasLinksOf x.slots slots

-- the whole invariant stands where a held border node gets slots that it may hold
pub sound_slots : (xs : List NodeView) (trees : List Tree) (gone : RetiredPlaces) (room : Rooms) (i : ℕ) (slots : List Entry) (cells : Slotted) → i < length xs
    → ArenaInvariant xs trees gone room → (node_at xs i).holder ≢ None → (node_at xs i).version.deleted ≡ false → (node_at xs i).level ≡ 0
    → MayHold trees (node_at xs i) slots → ArenaInvariant (set xs i (with_slots (node_at xs i) slots cells)) trees gone room
sound_slots xs trees gone room i slots cells within sound held live level may =
    let x = node_at xs i in
    sound_set xs trees gone room i (with_slots x slots cells) within sound (nodes_slots xs i slots cells within sound.arena.nodes held level may.border (within_all x slots may.inside)) (ranged_marked xs i slots cells (with_slots x slots cells).version within sound.arena.ranged refl (λ marked. marked) (λ whole. whole))
    record { tree = refl; level = refl; low = refl; deleted = refl; flag = refl; root = λ r. record { live = r.live; flag = r.flag; parentless = r.parentless; low = r.low; reach = r.reach } }
    (live_keys trees (with_slots x slots cells) live may.keys)
    record { tree = refl; deleted = refl; forth = may.forth; back = may.back }
    record { next = refl; children = refl }

-- the mark for readers of keys and children
pub changes_inserting : (op : ℕ) (x : NodeView) → x.holder ≡ Some op → Changes op x (inserting x)
changes_inserting op x mine = record {
  tree = refl;
  level = refl;
  low = refl;
  ages = ages-marked_inserting x.version;
  peopled = λ some. some;
  widens = λ same whole live. omega arith;
  keys = λ range insertion whole still. record { slots = entries_none x.slots x.cells; separators = refl; children = refl };
  held = λ q other e. absurd (not_others op q x mine other e);
  taken = λ q other e. e;
}

-- other slots, which keep what a reader may remember where the node is unmarked
pub changes_slots : (op : ℕ) (x : NodeView) (slots : List Entry) (cells : Slotted) → x.holder ≡ Some op
    → (x.version.inserting ≡ false → KeepsEntries x.slots x.cells slots cells) → Changes op x (with_slots x slots cells)
changes_slots op x slots cells mine keeps = record {
  tree = refl;
  level = refl;
  low = refl;
  ages = versions.ages_refl x.version;
  peopled = λ some. some;
  widens = λ same whole live. omega arith;
  keys = λ range insertion whole still. record { slots = keeps still; separators = refl; children = refl };
  held = λ q other e. absurd (not_others op q x mine other e);
  taken = λ q other e. e;
}

-- what other slots of a held node leave to others
pub step_slots : (v : ArenaView) (i op : ℕ) (slots : List Entry) (cells : Slotted) → i < length v.nodes → (at v i).holder ≡ Some op → IsOpen v i op
    → ((at v i).version.inserting ≡ false → KeepsEntries (at v i).slots (at v i).cells slots cells) → LosesHeld (at v i) (with_slots (at v i) slots cells)
    → Guarantee op v (with_node v i (with_slots (at v i) slots cells))
step_slots v i op slots cells within held mine keeps lost =
    step_set op v i (with_slots (at v i) slots cells) within (changes_slots op (at v i) slots cells held keeps) mine (record { previous = λ j e not_mine. e; parent = λ j e not_mine. e }) lost

-- where one slot holds something else, none loses its entry
pub lost_held : (n : NodeView) (i : ℕ) (e : Entry) (held : Held) → LosesHeld n (with_slots n (replaced n.slots e) (cells_holding n.cells i held))
lost_held n i e held whole slot live gone = absurd (gone (omega (arith, live, length-set n.slots (place_in n.slots (order_of e)) e)))

-- where one more is live, neither
pub lost_live : (n : NodeView) (slots : List Entry) (cells : Slotted) → ((slot : ℕ) → HasEntry n.slots n.cells slot → HasEntry slots cells slot) → LosesHeld n (with_slots n slots cells)
lost_live n slots cells still whole slot live gone = absurd (gone (still slot live))

-- and where one is dropped, it holds what it held
pub lost_dropped : (n : NodeView) (slots : List Entry) (cells : Slotted) (slot : ℕ) → LosesOnly n.slots n.cells slots cells slot
    → ¬ IsUnstable (slot_at n (place_at n slot)).held → LosesHeld n (with_slots n slots cells)
lost_dropped n slots cells slot only stable whole other live gone =
    let one = only other live gone in
    (one.1, subst (λ k. ¬ IsUnstable (slot_at n (place_at n k)).held) (sym one.0) stable)

-- the free slot that is live now was never dropped where the node is unmarked
pub unflagged : (dropped marked : Bool) → (dropped ≡ true → marked ≡ true) → marked ≡ false → dropped ≡ false
unflagged true marked so still = absurd (let is = so refl in cc)
unflagged false marked so still = refl

-- a pair is no link
pub no_link : (held : Held) → IsStablePair held → (u : ℕ) → held ≢ Link u
no_link (Stable pair) stable u e = absurd (cc)
no_link (Unstable pair tree) stable u e = absurd stable
no_link (Link tree) stable u e = absurd stable

module _ (xs : List NodeView) (trees : List Tree) (gone : RetiredPlaces) (room : Rooms) (i : ℕ) (within : i < length xs) (sound : ArenaInvariant xs trees gone room) where
  abbrev x : NodeView
  x = node_at xs i

  abbrev prefix : Bytes
  prefix = (tree_at trees x.tree).prefix

  -- of the slots as they are
  was_inside : All (λ (e : Entry). Holds x e.slice) x.slots
  was_inside = within_each x x.slots (sound.arena.nodes.each i within).slots.within

  was_border : IsBorder x.slots
  was_border = (sound.arena.nodes.each i within).slots.border

  was_keys : HaveKeys prefix x.slots
  was_keys = keys_of xs trees i within sound.arena.forest

  -- one key more
  pub may_publish : (e : Entry) (key : Bytes) → length x.slots < 15 → IsEntry e → IsMissing x.slots e.slice e.mark → Holds x e.slice
      → IsStablePair e.held → HasKey prefix (layer_of prefix) e key → e.mark ≢ Short 0
      → MayHold trees x (with_entry x.slots e)
  may_publish e key few entry missing inside stable has begun =
      let at = place_in x.slots (order_of e) in
      let le = place_in-le x.slots (order_of e) in
      record {
        border = border_with_entry x.slots e was_border entry missing few;
        inside = All-insert (λ (e : Entry). Holds x e.slice) x.slots at e was_inside inside;
        keys = record {
          keys = keys-publish prefix (layer_of prefix) x.slots e key was_keys.keys has;
          begun = All-insert (λ (e : Entry). e.mark ≢ Short 0) x.slots at e was_keys.begun begun;
        };
        forth = links_insert x.slots at e le;
        back = links_insert_back x.slots at e le (no_link e.held stable);
      }

  -- one key less, which is no link
  pub may_drop : (slot : ℕ) → slot < length x.slots → IsStablePair (get_or x.slots slot any_entry).held
      → MayHold trees x (without x.slots (get_or x.slots slot any_entry))
  may_drop slot inside stable =
      let e = get_or x.slots slot any_entry in
      let at : without x.slots e ≡ remove x.slots slot = without_at x.slots slot e was_border.rising inside (get_or_default x.slots slot any_entry e inside) in
      subst (MayHold trees x) (sym at) record {
        border = subst IsBorder at (border_without x.slots e was_border);
        inside = All-remove (λ (e : Entry). Holds x e.slice) x.slots slot was_inside;
        keys = record {
          keys = All-remove (λ e. (key : Bytes) × HasKey prefix (layer_of prefix) e key) x.slots slot was_keys.keys;
          begun = All-remove (λ (e : Entry). e.mark ≢ Short 0) x.slots slot was_keys.begun;
        };
        forth = links_remove x.slots slot inside (no_link e.held stable);
        back = links_remove_back x.slots slot inside;
      }

  -- another row in the place of one
  pub may_store : (slot : ℕ) (pair : Pair) (row : Columns) (stamp : ℕ) → slot < length x.slots → (get_or x.slots slot any_entry).held ≡ Stable pair
      → MayHold trees x (replaced x.slots (record (get_or x.slots slot any_entry) { held = Stable (record pair { row = row; stamp = stamp }) }))
  may_store slot pair row stamp inside is =
      let e = get_or x.slots slot any_entry in
      let after : Held = Stable (record pair { row = row; stamp = stamp }) in
      let new : Entry = record e { held = after } in
      let was = was_border.each slot any_entry inside in
      let held : CanHold e.mark after = subst (CanHold e.mark) is was.held in
      let key = was_keys.keys slot any_entry inside in
      subst (MayHold trees x) (sym (replaced_at x.slots slot new any_entry was_border.rising inside refl)) record {
        border = border_set x.slots slot new was_border record { mark = was.mark; held = held } (sym (get_or-map order_of x.slots slot any_entry 0 inside));
        inside = All-set (λ (e : Entry). Holds x e.slice) x.slots slot new (was_inside slot any_entry inside) was_inside;
        keys = record {
          keys =
              All-set (λ e. (key : Bytes) × HasKey prefix (layer_of prefix) e key) x.slots slot new (key.0, has_rewritten_key prefix (layer_of prefix) e key.0 pair row stamp key.1 (ap pair_of is)) was_keys.keys;
          begun = All-set (λ (e : Entry). e.mark ≢ Short 0) x.slots slot new (was_keys.begun slot any_entry inside) was_keys.begun;
        };
        forth = links_set x.slots slot new (λ u e. absurd (let link = sym is ∙ e in cc));
        back = links_set_back x.slots slot new inside (λ u e. absurd (cc));
      }

-- the mark of a key that has a byte in the layer is not that of none
pub begun_mark : (key : Bytes) (layer : ℕ) → 8 * layer < length key → mark_of key layer ≢ Short 0
begun_mark key layer some = by_length (length (rest_of key layer)) (omega (arith, length-drop (8 * layer) key))
  where
    by_length : (n : ℕ) → 0 < n → (if nat_le n 8 then Short n else Long) ≢ Short 0
    by_length n some e = by (nat_le n 8) e
      where
        by : (b : Bool) → (if b then Short n else Long) ≡ Short 0 → ⊥
        by true e = absurd (omega (arith, some, ap rank e))
        by false e = absurd (cc)

-- what the calls of an arena make of it: all that holds, and the contents
module _ (v : ArenaView) (room : Rooms) (k op : ℕ) (key : Bytes) (sound : ArenaInvariant v.nodes v.trees v.retired room) where
  abbrev n : NodeView
  n = at v k

  pub sound_published : (e : Entry) → MayPublish v k op key e → ArenaInvariant (set v.nodes k (with_slots n (with_entry n.slots e) (cells_with n.cells (place_in n.slots (order_of e)) e))) v.trees v.retired room
  sound_published e may =
      sound_slots v.nodes v.trees v.retired room k (with_entry n.slots e) (cells_with n.cells (place_in n.slots (order_of e)) e) may.held.there sound (is_held op n may.held.holder) may.belongs.border.live may.belongs.border.level
      (may_publish v.nodes v.trees v.retired room k may.held.there sound e key may.room may.entry may.missing (subst (Holds n) (sym may.has.slice) may.belongs.holds) may.stable may.has
      (λ none. begun_mark key (layer_of (tree_of v k).prefix) may.belongs.begun (sym may.has.mark ∙ none)))

  pub content_published : (e : Entry) (pair : Pair) → MayPublish v k op key e → e.held ≡ Stable pair
      → content v.trees (set v.nodes k (with_slots n (with_entry n.slots e) (cells_with n.cells (place_in n.slots (order_of e)) e))) ≡ finite.insert (content v.trees v.nodes) (owned key) (row_of pair)
  content_published e pair may is =
      published v.nodes v.trees sound.arena (begun v.nodes v.trees sound.arena.forest) key (layer_of (tree_of v k).prefix) k may.belongs (with_slots n (with_entry n.slots e) (cells_with n.cells (place_in n.slots (order_of e)) e)) e pair may.has may.missing (ap pair_of is)
      record { slots = refl; deleted = refl; tree = refl }

  module _ (i : ℕ) (pair : Pair) (may : MayChange v k op key i pair) where
    abbrev was : Entry
    was = slot_at n i

    is_stable : IsStablePair was.held
    is_stable = subst IsStablePair (sym may.stable) tt

    pub sound_stored : (row : Columns) (stamp : ℕ)
        → ArenaInvariant (set v.nodes k (with_slots n (replaced n.slots (with_row was pair row stamp)) (cells_holding n.cells i (with_row was pair row stamp).held))) v.trees v.retired room
    sound_stored row stamp =
        sound_slots v.nodes v.trees v.retired room k (replaced n.slots (with_row was pair row stamp)) (cells_holding n.cells i (with_row was pair row stamp).held) may.held.there sound (is_held op n may.held.holder) may.stands.live may.level
        (may_store v.nodes v.trees v.retired room k may.held.there sound i pair row stamp may.stands.in_range may.stable)

    pub content_stored : (row : Columns) (stamp : ℕ)
        → content v.trees (set v.nodes k (with_slots n (replaced n.slots (with_row was pair row stamp)) (cells_holding n.cells i (with_row was pair row stamp).held))) ≡ finite.insert (content v.trees v.nodes) (owned key) (record { stamp = stamp; row = row })
    content_stored row stamp =
        stored v.nodes v.trees sound.arena (begun v.nodes v.trees sound.arena.forest) key (layer_of (tree_of v k).prefix) k i pair may.stands (with_slots n (replaced n.slots (with_row was pair row stamp)) (cells_holding n.cells i (with_row was pair row stamp).held)) row stamp
        record { slots = replaced_at n.slots i (with_row was pair row stamp) any_entry (sound.arena.nodes.each k may.held.there).slots.border.rising may.stands.in_range refl; deleted = refl; tree = refl }

    pub sound_dropped : ArenaInvariant (set v.nodes k (with_slots n (without n.slots was) (cells_without n.cells i))) v.trees v.retired room
    sound_dropped =
        sound_slots v.nodes v.trees v.retired room k (without n.slots was) (cells_without n.cells i) may.held.there sound (is_held op n may.held.holder) may.stands.live may.level
        (may_drop v.nodes v.trees v.retired room k may.held.there sound i may.stands.in_range is_stable)

    pub content_dropped : content v.trees (set v.nodes k (with_slots n (without n.slots was) (cells_without n.cells i))) ≡ finite.remove (content v.trees v.nodes) (owned key)
    content_dropped =
        dropped v.nodes v.trees sound.arena (begun v.nodes v.trees sound.arena.forest) key (layer_of (tree_of v k).prefix) k i pair may.stands (with_slots n (without n.slots was) (cells_without n.cells i))
        record { slots = without_at n.slots i was (sound.arena.nodes.each k may.held.there).slots.border.rising may.stands.in_range (get_or_default n.slots i any_entry was may.stands.in_range); deleted = refl; tree = refl }
