-- A key's pair stands in no other place than the one where a descent ends: for `Owners` and the laws.
use Rattle.std.proofs.Common.{◌≡◌, ◌≢◌, ℕ, ◌+◌, ◌*◌, ◌<◌, ◌≤◌, List, length, take, Some, refl, sym, ap, subst, ◌∙◌, inl, inr, arith}
use Rattle.std.proofs.{lemmas.Bool.{cases_eq, cases_lt}, lemmas.Bool.Decides.nat_tests, lemmas.Option.{none-some, same_Some}}
use Rattle.std.proofs.lemmas.List.{length-take-le, length-drop}
use Rattle.std.specs.Prelude.{◌⊎◌, nat_le, if◌then◌else◌}
use Rattle.mt_slices.specs.{declared.mark.Mark.TheVariants.{Short, Long}, Slices.{rest_of, slice_of, mark_of, suffix_of}}
use Rattle.mt_rows.specs.Rows.{Bytes}
use Rattle.mt_border.specs.{Held.{Pair, Held, Link}, declared.entry.Entry.Entry, Entry.pair_of, Entries.IsMissing, Contents.{IsOfTree, HasKey}}
use Rattle.mt_border.proofs.Edits.{any_entry}
use Rattle.mt_arena.specs.{declared.tree.Tree.Tree, NodeView.{NodeView, node_at}, Nodes.Holds, Forests.{tree_at, layer_of}, Layers.slot_at, Arena.IsArena}
use Rattle.mt_arena.specs.{Stands.StandsAt, Ways.{AreBegun, LinksOn, BelongsIn, StandsFor}}
use Rattle.mt_arena.proofs.{Places.{slot_within, stands_within, one_border, same_slot, one_place}, Links.{one_tree, links_above}}

-- the mark of eight bytes or fewer, and of more
pub mark_short : (n : ℕ) → n ≤ 8 → (if nat_le n 8 then Short n else Long) ≡ Short n
mark_short n short = grind (arith, nat_tests)

mark_long : (n : ℕ) → 8 < n → (if nat_le n 8 then Short n else Long) ≡ Long
mark_long n long = grind (arith, nat_tests)

-- a key that reaches below the next layer has the long mark
long_mark : (key : Bytes) (layer : ℕ) → 8 * layer + 8 < length key → mark_of key layer ≡ Long
long_mark key layer below = mark_long (length (rest_of key layer)) (omega (arith, length-drop (8 * layer) key))

-- a key whose mark is not that of no bytes has a byte in the layer
pub begun_of : (prefix : Bytes) (layer : ℕ) (e : Entry) (key : Bytes) → HasKey prefix layer e key → e.mark ≢ Short 0 → 8 * layer < length key
begun_of prefix layer e key has some = elim (cases_lt (8 * layer) (length key)) [
  | inl within ↦ within
  | inr past ↦
      let size : length (rest_of key layer) ≡ 0 = omega (arith, length-drop (8 * layer) key) in
      absurd (some (has.mark ∙ mark_short (length (rest_of key layer)) (omega (arith, size)) ∙ ap Short size))
]

-- a prefix has eight bytes for each layer
pub layer_is : (prefix key : Bytes) (layer : ℕ) → IsOfTree prefix layer key → layer_of prefix ≡ layer
layer_is prefix key layer of_tree = let size = ap length of_tree.begins ∙ length-take-le (8 * layer) key of_tree.reaches in omega (arith, size)

-- a link is no pair
no_pair : (held : Held) (u : ℕ) (pair : Pair) → held ≡ Link u → pair_of held ≡ Some pair → ⊥
no_pair held u pair link is = none-some pair (sym (ap pair_of link) ∙ is)

module _ (nodes : List NodeView) (trees : List Tree) (arena : IsArena nodes trees) (begun : AreBegun nodes) where
  -- a node with a slot is a border node
  level_of : (k i : ℕ) → k < length nodes → i < length (node_at nodes k).slots → (node_at nodes k).level ≡ 0
  level_of k i there within = elim (cases_lt 0 (node_at nodes k).level) [
    | inl above ↦ absurd (let none = ap length ((arena.nodes.each k there).slots.slotless above) in omega (arith, none, within))
    | inr border ↦ omega (arith, border)
  ]

  -- a key belongs where it stands
  pub belongs : (key : Bytes) (layer k i : ℕ) (pair : Pair) → StandsFor nodes trees key layer k i pair → BelongsIn nodes trees key layer k
  belongs key layer k i pair at = record {
    border = record { there = at.there; live = at.live; level = level_of k i at.there at.in_range; tree_is = refl };
    tree_live = at.tree_live;
    of_tree = at.has.of_tree;
    begun = begun_of (tree_at trees (node_at nodes k).tree).prefix layer (slot_at (node_at nodes k) i) key at.has (begun k at.there i any_entry at.in_range);
    holds = subst (Holds (node_at nodes k)) at.has.slice (slot_within nodes k i arena.nodes at.there at.in_range);
  }

  stands : (key : Bytes) (layer k i : ℕ) (pair : Pair) → StandsFor nodes trees key layer k i pair
      → StandsAt nodes (node_at nodes k).tree (slice_of key layer) (mark_of key layer) k i
  stands key layer k i pair at = record {
    border = (belongs key layer k i pair at).border;
    in_range = at.in_range;
    slice_is = at.has.slice;
    mark_is = at.has.mark;
  }

  -- what the node in which the key belongs has at its slice and mark, where the key's pair stands somewhere: that pair, or a link
  record Meets (key : Bytes) (layer k l j : ℕ) : Type 0 where
    slot : ℕ
    here : StandsAt nodes (node_at nodes k).tree (slice_of key layer) (mark_of key layer) k slot
    which : ((k ≡ l) × (slot ≡ j)) ⊎ ((u : ℕ) × ((slot_at (node_at nodes k) slot).held ≡ Link u))

  module _ (key : Bytes) (layer k : ℕ) (in_k : BelongsIn nodes trees key layer k) (low l j : ℕ) (pair : Pair) (at : StandsFor nodes trees key low l j pair) where
    in_l : BelongsIn nodes trees key low l
    in_l = belongs key low l j pair at

    at_l : StandsAt nodes (node_at nodes l).tree (slice_of key low) (mark_of key low) l j
    at_l = stands key low l j pair at

    -- not in a tree above: there is a link
    not_above : low < layer → ⊥
    not_above above =
        let way : LinksOn nodes trees key low = links_above nodes trees arena key (node_at nodes k).tree layer low in_k.tree_live in_k.of_tree.begins in_k.of_tree.reaches above in
        let tree = one_tree nodes trees way.tree (node_at nodes l).tree arena.forest way.live at.tree_live (way.prefix ∙ sym at.has.of_tree.begins) in
        let mark : Long ≡ mark_of key low = sym (long_mark key low (omega (arith, in_k.begun))) in
        let also = subst (λ m. StandsAt nodes (node_at nodes l).tree (slice_of key low) m way.node way.slot) mark (subst (λ t. StandsAt nodes t (slice_of key low) Long way.node way.slot) tree way.stands) in
        let same = one_place nodes (node_at nodes l).tree (slice_of key low) (mark_of key low) way.node way.slot l j arena.nodes also at_l in
        no_pair (slot_at (node_at nodes l) j).held way.to pair ((λ i. (slot_at (node_at nodes (sym same.0 i)) (sym same.1 i)).held) ∙ way.is) at.pair_is

    -- in the same tree, it is the same node
    same_layer : low ≡ layer → Meets key layer k l j
    same_layer one =
        let tree = one_tree nodes trees (node_at nodes l).tree (node_at nodes k).tree arena.forest at.tree_live in_k.tree_live
        (at.has.of_tree.begins ∙ ap (λ m. take (8 * m) key) one ∙ sym in_k.of_tree.begins) in
        let there = subst (λ t. StandsAt nodes t (slice_of key layer) (mark_of key layer) l j) tree (subst (λ m. StandsAt nodes (node_at nodes l).tree (slice_of key m) (mark_of key m) l j) one at_l) in
        let same = one_border nodes (node_at nodes k).tree (slice_of key layer) k l arena.nodes in_k.border there.border in_k.holds (stands_within nodes (node_at nodes k).tree (slice_of key layer) (mark_of key layer) l j arena.nodes there) in
        record { slot = j; here = subst (λ q. StandsAt nodes (node_at nodes k).tree (slice_of key layer) (mark_of key layer) q j) (sym same) there; which = inl (same, refl) }

    -- in a tree below, there is a link to go down by
    below : layer < low → Meets key layer k l j
    below lower =
        let way : LinksOn nodes trees key layer = links_above nodes trees arena key (node_at nodes l).tree low layer at.tree_live at.has.of_tree.begins at.has.of_tree.reaches lower in
        let tree = one_tree nodes trees way.tree (node_at nodes k).tree arena.forest way.live in_k.tree_live (way.prefix ∙ sym in_k.of_tree.begins) in
        let mark : Long ≡ mark_of key layer = sym (long_mark key layer (omega (arith, in_l.begun))) in
        let there = subst (λ m. StandsAt nodes (node_at nodes k).tree (slice_of key layer) m way.node way.slot) mark (subst (λ t. StandsAt nodes t (slice_of key layer) Long way.node way.slot) tree way.stands) in
        let same = one_border nodes (node_at nodes k).tree (slice_of key layer) way.node k arena.nodes there.border in_k.border (stands_within nodes (node_at nodes k).tree (slice_of key layer) (mark_of key layer) way.node way.slot arena.nodes there) in_k.holds in
        record {
          slot = way.slot;
          here = subst (λ q. StandsAt nodes (node_at nodes k).tree (slice_of key layer) (mark_of key layer) q way.slot) same there;
          which = inr (way.to, (λ i. (slot_at (node_at nodes (sym same i)) way.slot).held) ∙ way.is);
        }

    meets : Meets key layer k l j
    meets = elim (cases_lt low layer) [
      | inl above ↦ absurd (not_above above)
      | inr not ↦ elim (cases_eq low layer) [
        | inl same ↦ same_layer same
        | inr differ ↦ below (omega arith)
      ]
    ]

    -- nowhere, where the key is missing in the node in which it belongs
    pub nowhere_missing : IsMissing (node_at nodes k).slots (slice_of key layer) (mark_of key layer) → ⊥
    nowhere_missing missing = let m = meets in missing m.slot any_entry m.here.in_range m.here.slice_is m.here.mark_is

    -- and where a pair has its slice and mark there, nowhere but in its slot
    pub only_there : (i : ℕ) (other : Pair) → StandsAt nodes (node_at nodes k).tree (slice_of key layer) (mark_of key layer) k i
        → pair_of (slot_at (node_at nodes k) i).held ≡ Some other → (k ≡ l) × (i ≡ j)
    only_there i other here is =
        let m = meets in
        let same = same_slot nodes k m.slot i arena.nodes here.border.there m.here.in_range here.in_range (m.here.slice_is ∙ sym here.slice_is) (m.here.mark_is ∙ sym here.mark_is) in
        elim m.which [
          | inl both ↦ (both.0, sym same ∙ both.1)
          | inr link ↦ absurd (no_pair (slot_at (node_at nodes k) i).held link.0 other (ap (λ q. (slot_at (node_at nodes k) q).held) (sym same) ∙ link.1) is)
        ]

    -- so nowhere, where that pair goes on otherwise
    pub nowhere_other : (i : ℕ) (other : Pair) → StandsAt nodes (node_at nodes k).tree (slice_of key layer) (mark_of key layer) k i
        → pair_of (slot_at (node_at nodes k) i).held ≡ Some other → other.suffix ≢ suffix_of key layer → ⊥
    nowhere_other i other here is differ =
        let same = only_there i other here is in
        let pairs : other ≡ pair = same_Some other pair (sym is ∙ (λ a. pair_of (slot_at (node_at nodes (same.0 a)) (same.1 a)).held) ∙ at.pair_is) in
        let layers : low ≡ layer =
        sym (layer_is (tree_at trees (node_at nodes l).tree).prefix key low at.has.of_tree)
        ∙ (λ a. layer_of (tree_at trees (node_at nodes (sym same.0 a)).tree).prefix)
        ∙ layer_is (tree_at trees (node_at nodes k).tree).prefix key layer in_k.of_tree in
        differ ((λ a. (pairs a).suffix) ∙ at.has.suffix pair at.pair_is ∙ ap (suffix_of key) layers)

  -- a key's pair stands in one place
  pub stands_once : (key : Bytes) (layer k i : ℕ) (pair : Pair) (low l j : ℕ) (other : Pair) → StandsFor nodes trees key layer k i pair
      → StandsFor nodes trees key low l j other → (k ≡ l) × (i ≡ j)
  stands_once key layer k i pair low l j other here there =
      only_there key layer k (belongs key layer k i pair here) low l j other there i pair (stands key layer k i pair here) here.pair_is
