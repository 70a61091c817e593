-- What the contents have at a key, and what a change of one slot makes of them: for `Slots` and the laws.
use Rattle.std.proofs.Common.{◌≡◌, ◌≢◌, ℕ, ◌<◌, List, length, get_or, set, take, Some, None, sym, refl, subst}
use Rattle.std.specs.{List.{All, remove as remove_at_place}, FinMap.{get, insert, remove}}
use Rattle.mt_slices.specs.Slices.{slice_of, mark_of, suffix_of}
use Rattle.mt_rows.specs.Rows.{Bytes, Columns}
use Rattle.mt_border.specs.{Held.{Pair, Stable}, declared.entry.Entry.Entry, Entry.{pair_of, order_at, order_of}, Entries.{IsBorder, IsMissing, with_entry}}
use Rattle.mt_border.specs.Contents.{owned, IsOfTree, HasKey, AreKeys, row_of}
use Rattle.mt_border.proofs.{Edits.any_entry, ContentsKeys.{IsApart, owned_at, has_rewritten_key, order_of_key, missing_key}}
use Rattle.mt_border.proofs.{ContentsLists.{contents-set, get-at}, ContentsFinds.apart_before, ContentsEdits.contents-publish}
use Rattle.mt_arena.specs.{declared.tree.Tree.Tree, NodeView.{NodeView, node_at}, Forests.tree_at, Layers.slot_at, Contents.content, Arena.IsArena}
use Rattle.mt_arena.specs.{Stands.StandsAt, Ways.{AreBegun, BelongsIn, StandsFor, HasSlots}}
use Rattle.mt_arena.proofs.Elsewhere.{layer_is, nowhere_missing, nowhere_other, stands_once}
use Rattle.mt_arena.proofs.Counted.{HasNone, none_at, content-none, content-some, content-insert, content-remove, contents-remove, apart_behind}

module _ (nodes : List NodeView) (trees : List Tree) (arena : IsArena nodes trees) (begun : AreBegun nodes) (key : Bytes) (layer k : ℕ) where
  abbrev n : NodeView
  n = node_at nodes k

  abbrev begins : Bytes
  begins = (tree_at trees n.tree).prefix

  -- the slots of a node stand for keys of its tree's layer
  pub keys_of : k < length nodes → IsOfTree begins layer key → AreKeys begins layer n.slots
  keys_of there of_tree =
      subst (λ m. AreKeys begins m n.slots) (layer_is begins key layer of_tree) ((arena.forest.homes k n.tree there (arena.forest.tree_there k there)).keys refl).keys

  -- where the key belongs in a node
  module _ (in_k : BelongsIn nodes trees key layer k) where
    -- and is missing in it, no node has its pair
    pub nodes_missing : IsMissing n.slots (slice_of key layer) (mark_of key layer) → (l : ℕ) → l < length nodes → HasNone trees nodes (owned key) l
    nodes_missing missing l there =
        none_at nodes trees arena begins layer key in_k.of_tree l there (λ low j pair at. nowhere_missing nodes trees arena begun key layer k in_k low l j pair at missing)

    pub none_elsewhere : IsMissing n.slots (slice_of key layer) (mark_of key layer) → get (content trees nodes) (owned key) ≡ None
    none_elsewhere missing = content-none trees nodes (owned key) (nodes_missing missing)

    -- nor where another key's pair has its slice and mark
    pub none_beside : (i : ℕ) (other : Pair) → StandsAt nodes n.tree (slice_of key layer) (mark_of key layer) k i
        → pair_of (slot_at n i).held ≡ Some other → other.suffix ≢ suffix_of key layer → get (content trees nodes) (owned key) ≡ None
    none_beside i other at is differ = content-none trees nodes (owned key) (λ l there. none_at nodes trees arena begins layer key in_k.of_tree l there
        (λ low j pair also. nowhere_other nodes trees arena begun key layer k in_k low l j pair also i other at is differ))

    -- to publish its entry there is to insert its pair
    pub published : (y : NodeView) (e : Entry) (pair : Pair) → HasKey begins layer e key → IsMissing n.slots e.slice e.mark
        → pair_of e.held ≡ Some pair → HasSlots n y (with_entry n.slots e)
        → content trees (set nodes k y) ≡ insert (content trees nodes) (owned key) (row_of pair)
    published y e pair has missing is slots =
        let there = in_k.border.there in
        let none = nodes_missing (missing_key begins layer n.slots e key has missing) in
        content-insert trees nodes (owned key) k there in_k.border.live in_k.tree_live (λ l within differ. none l within) y (with_entry n.slots e) slots (row_of pair)
        (contents-publish begins layer n.slots e key pair (keys_of there in_k.of_tree) has missing is)

  -- where a slot has the key's pair
  module _ (i : ℕ) (pair : Pair) (at : StandsFor nodes trees key layer k i pair) where
    -- no other node has it
    pub others : (l : ℕ) → l < length nodes → l ≢ k → HasNone trees nodes (owned key) l
    others l there differ = none_at nodes trees arena begins layer key at.has.of_tree l there
        (λ low j other also. differ (sym (stands_once nodes trees arena begun key layer k i pair low l j other at also).0))

    border : IsBorder n.slots
    border = (arena.nodes.each k at.there).slots.border

    keys : AreKeys begins layer n.slots
    keys = keys_of at.there at.has.of_tree

    place : order_of (get_or n.slots i any_entry) ≡ order_at (slice_of key layer) (mark_of key layer)
    place = order_of_key begins layer (slot_at n i) key at.has

    before : All (IsApart begins (owned key)) (take i n.slots)
    before = apart_before begins layer n.slots key i border keys at.has.of_tree at.in_range place

    -- the contents have its row
    pub found : get (content trees nodes) (owned key) ≡ Some (row_of pair)
    found = content-some trees nodes (owned key) k at.there at.live at.tree_live others (row_of pair)
        (get-at begins (owned key) n.slots i any_entry pair at.in_range at.pair_is (owned_at begins layer (slot_at n i) key pair at.has at.pair_is) before)

    -- another entry of the key in its place inserts that one's row
    pub replaced : (y : NodeView) (e : Entry) (new : Pair) → HasKey begins layer e key → pair_of e.held ≡ Some new → HasSlots n y (set n.slots i e)
        → content trees (set nodes k y) ≡ insert (content trees nodes) (owned key) (row_of new)
    replaced y e new has is slots = content-insert trees nodes (owned key) k at.there at.live at.tree_live others y (set n.slots i e) slots (row_of new)
        (contents-set begins (owned key) n.slots i e any_entry pair new at.in_range at.pair_is (owned_at begins layer (slot_at n i) key pair at.has at.pair_is) is (owned_at begins layer e key new has is) before)

    -- as another row with its stamp does
    pub stored : (y : NodeView) (row : Columns) (stamp : ℕ) → HasSlots n y (set n.slots i (record (slot_at n i) { held = Stable (record pair { row = row; stamp = stamp }) })) → content trees (set nodes k y) ≡ insert (content trees nodes) (owned key) (record { stamp = stamp; row = row })
    stored y row stamp slots =
        replaced y (record (slot_at n i) { held = Stable (record pair { row = row; stamp = stamp }) }) (record pair { row = row; stamp = stamp })
        (has_rewritten_key begins layer (slot_at n i) key pair row stamp at.has at.pair_is) refl slots

    -- to drop the slot is to remove its pair
    pub dropped : (y : NodeView) → HasSlots n y (remove_at_place n.slots i) → content trees (set nodes k y) ≡ remove (content trees nodes) (owned key)
    dropped y slots = content-remove trees nodes (owned key) k at.there at.live at.tree_live others y (remove_at_place n.slots i) slots
        (contents-remove begins (owned key) n.slots i pair at.in_range at.pair_is (owned_at begins layer (slot_at n i) key pair at.has at.pair_is) before
        (apart_behind begins layer n.slots key i border keys at.has.of_tree at.in_range place))
