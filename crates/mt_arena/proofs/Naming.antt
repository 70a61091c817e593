-- A step that changes several nodes lets them name, as the one before or as their parent, only nodes that its operation holds: for the
-- clause `step` of their calls.
use Rattle.std.proofs.Common.{◌≡◌, ◌≢◌, ◌⊎◌, ℕ, ◌+◌, ◌<◌, ◌≤◌, List, [], ◌∷◌, ◌++◌, length, set, Option, Some, None, sym, ap, ◌∙◌, inl, inr, arith, length-append}
use Rattle.std.proofs.{lemmas.Bool.{cases_eq, cases_lt}, lemmas.Option.same_Some, lemmas.List.length-set}
use Rattle.mt_arena.{specs.{NodeView.{NodeView, node_at}, Guarantee.PointsOnly}, proofs.{Pairs.{here, there, last, before}, Guarantees.PointsSo}}

-- a node that names what it named
pub names_same : (op : ℕ) (nodes : List NodeView) (x y : NodeView) → y.previous ≡ x.previous → y.parent ≡ x.parent → PointsSo op nodes x y
names_same op nodes x y previous parent = record {
  previous = λ j e not_mine. sym previous ∙ e;
  parent = λ j e not_mine. sym parent ∙ e;
}

-- each node names so
pub points_each : (op : ℕ) (old new : List NodeView) → length new ≡ length old
    → ((k : ℕ) → k < length old → PointsSo op new (node_at old k) (node_at new k)) → PointsOnly op old new
points_each op old new same each = record {
  previous = λ k j lt _ e not_mine. (each k lt).previous j e not_mine;
  parent = λ k j lt _ e not_mine. (each k lt).parent j e not_mine;
  new_previous = λ k j from lt. absurd (omega (arith, from, lt, same));
  new_parent = λ k j from lt. absurd (omega (arith, from, lt, same));
}

-- and one more, which names none
pub points_more : (op : ℕ) (old new : List NodeView) (g : NodeView) → length new ≡ length old → g.previous ≡ None → g.parent ≡ None
    → ((k : ℕ) → k < length old → PointsSo op (new ++ g ∷ []) (node_at old k) (node_at new k)) → PointsOnly op old (new ++ g ∷ [])
points_more op old new g same no_previous no_parent each =
    let size : length (new ++ g ∷ []) ≡ length new + 1 = length-append new (g ∷ []) in
    record {
      previous =
          λ k j lt _ e not_mine. (each k lt).previous j (ap (λ (n : NodeView). n.previous) (sym (before new g k (omega (arith, lt, same)))) ∙ e) not_mine;
      parent = λ k j lt _ e not_mine. (each k lt).parent j (ap (λ (n : NodeView). n.parent) (sym (before new g k (omega (arith, lt, same)))) ∙ e) not_mine;
      new_previous = λ k j from lt _ e.
          let is : k ≡ length new = omega (arith, from, lt, same, size) in
          absurd (let at = sym no_previous ∙ ap (λ (n : NodeView). n.previous) (sym (last new g)) ∙ ap (λ k. (node_at (new ++ g ∷ []) k).previous) (sym is) ∙ e in cc);
      new_parent = λ k j from lt _ e.
          let is : k ≡ length new = omega (arith, from, lt, same, size) in
          absurd (let at = sym no_parent ∙ ap (λ (n : NodeView). n.parent) (sym (last new g)) ∙ ap (λ k. (node_at (new ++ g ∷ []) k).parent) (sym is) ∙ e in cc);
    }

-- what holds of each node and its number, where two are changed, and where three are
pub each_set2 : (P : ℕ → NodeView → Type 0) (xs : List NodeView) (i j : ℕ) (y z : NodeView) → i < length xs → j < length xs → i ≢ j → P i y → P j z
    → ((k : ℕ) → k < length xs → k ≢ i → k ≢ j → P k (node_at xs k)) → (k : ℕ) → k < length xs → P k (node_at (set (set xs i y) j z) k)
each_set2 P xs i j y z li lj differ one two others k lk = elim (cases_eq k j) [
  | inl k_j ↦ rw (k_j, here (set xs i y) j z (omega (arith, lj, length-set xs i y))) two
  | inr k_nj ↦ elim (cases_eq k i) [
    | inl k_i ↦ rw (k_i, there (set xs i y) j i z differ, here xs i y li) one
    | inr k_ni ↦ rw (there (set xs i y) j k z k_nj, there xs i k y k_ni) (others k lk k_ni k_nj)
  ]
]

-- what holds of each node holds where three of them change, if it holds of the three
pub each_set3 : (P : ℕ → NodeView → Type 0) (xs : List NodeView) (i j q : ℕ) (y z w : NodeView) → i < length xs → j < length xs → q < length xs
    → i ≢ j → i ≢ q → j ≢ q → P i y → P j z → P q w → ((k : ℕ) → k < length xs → k ≢ i → k ≢ j → k ≢ q → P k (node_at xs k))
    → (k : ℕ) → k < length xs → P k (node_at (set (set (set xs i y) j z) q w) k)
each_set3 P xs i j q y z w li lj lq ij iq jq one two three others k lk =
    let size = length-set xs i y in
    let size2 = length-set (set xs i y) j z in
    elim (cases_eq k q) [
      | inl k_q ↦ rw (k_q, here (set (set xs i y) j z) q w (omega (arith, lq, size, size2))) three
      | inr k_nq ↦ rw (there (set (set xs i y) j z) q k w k_nq) (each_set2 (λ k n. k ≢ q → P k n) xs i j y z li lj ij (λ _. one) (λ _. two) (λ k lk ni nj nq. others k lk ni nj nq) k lk k_nq)
    ]

-- whether an operation is the holder
is_holder : (holder : Option ℕ) (op : ℕ) → (holder ≡ Some op) ⊎ (holder ≢ Some op)
is_holder None op = inr (λ e. absurd (cc))
is_holder (Some q) op = elim (cases_eq q op) [
  | inl same ↦ inl (ap (λ (o : ℕ). Some o) same)
  | inr other ↦ inr (λ e. other (same_Some _ _ e))
]

-- two steps of an operation that gives no lock back in the second
pub points_on : (op : ℕ) (old mid new : List NodeView) → length old ≤ length mid → PointsOnly op old mid → PointsOnly op mid new
    → ((j : ℕ) → j < length mid → (node_at mid j).holder ≡ Some op → (node_at new j).holder ≡ Some op) → PointsOnly op old new
points_on op old mid new more a b kept = record {
  previous =
      λ k j lt lt_j e not_mine. a.previous k j lt lt_j (b.previous k j (omega (arith, lt, more)) (omega (arith, lt_j, more)) e not_mine) (λ mine. not_mine (kept j (omega (arith, lt_j, more)) mine));
  parent =
      λ k j lt lt_j e not_mine. a.parent k j lt lt_j (b.parent k j (omega (arith, lt, more)) (omega (arith, lt_j, more)) e not_mine) (λ mine. not_mine (kept j (omega (arith, lt_j, more)) mine));
  new_previous = λ k j from lt lt_j e. elim (cases_lt k (length mid)) [
    | inr new_one ↦ b.new_previous k j new_one lt (omega (arith, lt_j, more)) e
    | inl was ↦ elim (is_holder (node_at new j).holder op) [
      | inl mine ↦ mine
      | inr not_mine ↦ kept j (omega (arith, lt_j, more)) (a.new_previous k j from was lt_j (b.previous k j was (omega (arith, lt_j, more)) e not_mine))
    ]
  ];
  new_parent = λ k j from lt lt_j e. elim (cases_lt k (length mid)) [
    | inr new_one ↦ b.new_parent k j new_one lt (omega (arith, lt_j, more)) e
    | inl was ↦ elim (is_holder (node_at new j).holder op) [
      | inl mine ↦ mine
      | inr not_mine ↦ kept j (omega (arith, lt_j, more)) (a.new_parent k j from was lt_j (b.parent k j was (omega (arith, lt_j, more)) e not_mine))
    ]
  ];
}
