-- A slice and a mark stand in one slot of a tree: for `Elsewhere` and the laws.
use Rattle.std.proofs.{Common.{◌≡◌, ℕ, ◌<◌, List, length, sym, subst, ◌∙◌, inl, inr}, lemmas.Bool.cases_eq, lemmas.List.get_or-map}
use Rattle.mt_slices.specs.declared.mark.Mark.{Mark}
use Rattle.mt_border.{specs.Entry.{order_of, order_at}, proofs.Edits.{any_entry, one_place as one_slot}}
use Rattle.mt_arena.specs.{NodeView.{NodeView, node_at}, Nodes.{Holds, AreNodes}, Layers.slot_at, Stands.{IsLiveBorder, StandsAt}}

-- the slice of a slot lies within its node's fences
pub slot_within : (nodes : List NodeView) (k i : ℕ) → AreNodes nodes → k < length nodes → i < length (node_at nodes k).slots
    → Holds (node_at nodes k) (slot_at (node_at nodes k) i).slice
slot_within nodes k i are there within =
    subst (Holds (node_at nodes k)) (get_or-map (λ e. e.slice) (node_at nodes k).slots i any_entry 0 within) ((are.each k there).slots.within i within)

-- so does the slice that stands in it
pub stands_within : (nodes : List NodeView) (tree slice : ℕ) (mark : Mark) (k i : ℕ) → AreNodes nodes → StandsAt nodes tree slice mark k i
    → Holds (node_at nodes k) slice
stands_within nodes tree slice mark k i are at = subst (Holds (node_at nodes k)) at.slice_is (slot_within nodes k i are at.border.there at.in_range)

-- two live border nodes of one tree share no slice
pub one_border : (nodes : List NodeView) (tree slice k l : ℕ) → AreNodes nodes → IsLiveBorder nodes tree k → IsLiveBorder nodes tree l
    → Holds (node_at nodes k) slice → Holds (node_at nodes l) slice → k ≡ l
one_border nodes tree slice k l are here there holds also = elim (cases_eq k l) [
  | inl same ↦ same
  | inr differ ↦ absurd ((are.pairs k l here.there there.there).apart differ (here.tree_is ∙ sym there.tree_is) (here.level ∙ sym there.level) here.live there.live slice holds also)
]

-- so two slots of one slice stand in one node
pub one_node : (nodes : List NodeView) (tree slice : ℕ) (mark other : Mark) (k i l j : ℕ) → AreNodes nodes → StandsAt nodes tree slice mark k i
    → StandsAt nodes tree slice other l j → k ≡ l
one_node nodes tree slice mark other k i l j are here there =
    one_border nodes tree slice k l are here.border there.border (stands_within nodes tree slice mark k i are here) (stands_within nodes tree slice other l j are there)

-- two slots of one node with one slice and one mark are one
pub same_slot : (nodes : List NodeView) (k i j : ℕ) → AreNodes nodes → k < length nodes → i < length (node_at nodes k).slots
    → j < length (node_at nodes k).slots
    → (slot_at (node_at nodes k) i).slice ≡ (slot_at (node_at nodes k) j).slice
    → (slot_at (node_at nodes k) i).mark ≡ (slot_at (node_at nodes k) j).mark → i ≡ j
same_slot nodes k i j are there within inside slices marks =
    one_slot (node_at nodes k).slots i j (are.each k there).slots.border.rising within inside
    (get_or-map order_of (node_at nodes k).slots i any_entry 0 within ∙ (λ a. order_at (slices a) (marks a)) ∙ sym (get_or-map order_of (node_at nodes k).slots j any_entry 0 inside))

-- a slice and a mark stand in one place
pub one_place : (nodes : List NodeView) (tree slice : ℕ) (mark : Mark) (k i l j : ℕ) → AreNodes nodes → StandsAt nodes tree slice mark k i
    → StandsAt nodes tree slice mark l j → (k ≡ l) × (i ≡ j)
one_place nodes tree slice mark k i l j are here there =
    let same = one_node nodes tree slice mark mark k i l j are here there in
    let also = subst (λ q. StandsAt nodes tree slice mark q j) (sym same) there in
    (same, same_slot nodes k i j are here.border.there here.in_range also.in_range (here.slice_is ∙ sym also.slice_is) (here.mark_is ∙ sym also.mark_is))
