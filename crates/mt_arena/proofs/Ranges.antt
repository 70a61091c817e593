-- The ranges of a node's children: none is empty, and a node is a child of one node, at one place: for the edits of children.
use Rattle.std.proofs.Common.{◌≡◌, ◌≢◌, ℕ, suc, ◌+◌, ◌<◌, ◌≤◌, List, [], ◌∷◌, length, get_or, Option, false, sym, subst, ◌∙◌, inl, inr, arith, length-append}
use Rattle.std.proofs.lemmas.Bool.{cases_eq}
use Rattle.mt_lists.specs.Rising.{IsRising}
use Rattle.mt_interior.{specs.Fences.{end_of, bounds_of}, proofs.PlaceLemmas.{bounds_of-inner, bounds_of-end}}
use Rattle.mt_arena.specs.{NodeView.{NodeView, node_at}, Nodes.{AreNodes, IsNode, IsChild, Holds, bounds}}

-- a rising list, place by place
pub rises : (xs : List ℕ) (i j : ℕ) → IsRising xs → i ≤ j → j < length xs → get_or xs i 0 ≤ get_or xs j 0
rises xs i j rising le lt = elim (cases_eq i j) [
  | inl same ↦ rw same (omega arith)
  | inr differ ↦ omega (arith, rising i j (omega arith) lt)
]

-- what has an element is not empty
pub not_empty : (xs : List ℕ) (a : ℕ) → a < length xs → xs ≢ []
not_empty [] a lt e = absurd (omega arith)
not_empty (x ∷ xs) a lt e = absurd (cc)

-- how many bounds there are, beside separators and beside children
pub length_bounds : (n : NodeView) → length (bounds n) ≡ length n.separators + 2
length_bounds n = omega (arith, length-append n.separators (end_of n.high ∷ []))

-- a node with children has one bound more than children
pub length_children : (count : ℕ) (n : NodeView) (a : ℕ) → IsNode count n → a < length n.children → length (bounds n) ≡ length n.children + 1
length_children count n a h lt = omega (arith, length_bounds n, h.children.interior.between)

-- where bounds rise, the separators between them do
pub separators_rise : (low : ℕ) (xs : List ℕ) (high : Option ℕ) → IsRising (bounds_of low xs high) → IsRising xs
separators_rise low xs high rising i j lt within =
    let size = length-append xs (end_of high ∷ []) in
    omega (arith, bounds_of-inner low xs high i (omega arith), bounds_of-inner low xs high j within, rising (suc i) (suc j) (omega arith) (omega arith))

-- a child's range is not empty
pub child_ranges : (count : ℕ) (n : NodeView) (a : ℕ) (m : NodeView) → IsNode count n → a < length n.children → IsChild n a m → m.low < end_of m.reach
child_ranges count n a m h lt c =
    let size = length_children count n a h lt in
    let some = not_empty n.children a lt in
    omega (arith, c.low, c.reach, (h.children.rise some) a (a + 1) (omega arith) (omega arith))

-- where a child begins lies within the node's fences
pub holds_low : (count : ℕ) (n : NodeView) (a : ℕ) → IsNode count n → a < length n.children → Holds n (get_or (bounds n) a 0)
holds_low count n a h lt =
    let size = length_children count n a h lt in
    let all = length_bounds n in
    let some = not_empty n.children a lt in
    let end : get_or (bounds n) (suc (length n.separators)) 0 ≡ end_of n.high = bounds_of-end n.low n.separators n.high in
    (rises (bounds n) 0 a (h.children.rise some) (omega arith) (omega arith), omega (arith, end, (h.children.rise some) a (suc (length n.separators)) (omega arith) (omega arith)))

-- a node is a child of one live node
pub one_parent : (xs : List NodeView) (i k j a b : ℕ) → AreNodes xs → i < length xs → k < length xs → j < length xs
    → (node_at xs i).version.deleted ≡ false → (node_at xs k).version.deleted ≡ false
    → a < length (node_at xs i).children → get_or (node_at xs i).children a 0 ≡ j → b < length (node_at xs k).children
    → get_or (node_at xs k).children b 0 ≡ j → k ≡ i
one_parent xs i k j a b nodes li lk lj live also la ca lb cb =
    let one = (nodes.pairs i j li lj).child a la ca live in
    let two = (nodes.pairs k j lk lj).child b lb cb also in
    elim (cases_eq k i) [
      | inl same ↦ same
      | inr differ ↦ absurd ((nodes.pairs k i lk li).apart differ (sym two.tree ∙ one.tree) (sym two.level ∙ one.level) also live (node_at xs j).low
          (subst (λ s. Holds (node_at xs k) s) (sym two.low) (holds_low (length xs) (node_at xs k) b (nodes.each k lk) lb))
          (subst (λ s. Holds (node_at xs i) s) (sym one.low) (holds_low (length xs) (node_at xs i) a (nodes.each i li) la)))
    ]

-- and it is there once
pub one_place : (count : ℕ) (n : NodeView) (a b : ℕ) (m : NodeView) → IsNode count n → a < length n.children → b < length n.children → IsChild n a m
    → IsChild n b m → a ≡ b
one_place count n a b m h la lb first second =
    let size = length_children count n a h la in
    let some = not_empty n.children a la in
    grind (arith, size, la, lb, first.low, second.low, (h.children.rise some) a b, (h.children.rise some) b a)
