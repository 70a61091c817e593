-- Facts of each node and of each two, where up to three nodes are changed or one is added: for the lemmas of every edit.
use Rattle.std.proofs.Common.{◌≡◌, ◌≢◌, ℕ, zero, suc, ◌+◌, ◌<◌, List, [], ◌∷◌, ◌++◌, length, get_or, set, refl, sym, ap, subst, ◌∙◌, inl, inr, arith, length-append}
use Rattle.std.proofs.{lemmas.Bool.cases_eq, lemmas.List.{get_or-set_same, get_or-set_other, length-set, get_or_default}}
use Rattle.mt_arena.{specs.{NodeView.{NodeView, node_at, no_node}, Nodes.{AllPairs, AllNodes, AreNodes, IsNode, IsPair}}, proofs.Groups.node_more}

-- the node that was written, and the others
pub here : (xs : List NodeView) (i : ℕ) (y : NodeView) → i < length xs → node_at (set xs i y) i ≡ y
here xs i y within = get_or-set_same xs i y no_node within

-- another node is read as it was
pub there : (xs : List NodeView) (i k : ℕ) (y : NodeView) → k ≢ i → node_at (set xs i y) k ≡ node_at xs k
there xs i k y other = get_or-set_other xs i k y no_node other

-- what was read is the node
pub read : (xs : List NodeView) (i : ℕ) (x : NodeView) → i < length xs → x ≡ get_or xs i x → x ≡ node_at xs i
read xs i x within is = is ∙ get_or_default xs i x no_node within

-- a list with one more: the last one, and those before it
pub last : (xs : List NodeView) (y : NodeView) → node_at (xs ++ y ∷ []) (length xs) ≡ y
last [] y = refl
last (x ∷ xs) y = last xs y

-- a node that was there is read as it was behind a push
pub before : (xs : List NodeView) (y : NodeView) (k : ℕ) → k < length xs → node_at (xs ++ y ∷ []) k ≡ node_at xs k
before [] y k lt = absurd (omega arith)
before (x ∷ xs) y zero lt = refl
before (x ∷ xs) y (suc k) lt = before xs y k (omega arith)

-- a fact of each node, where one node is another
pub nodes_set : (P : NodeView → Type 0) (xs : List NodeView) (i : ℕ) (y : NodeView) → i < length xs → AllNodes P xs → P y → AllNodes P (set xs i y)
nodes_set P xs i y within all new k lt = elim (cases_eq k i) [
  | inl is ↦ subst P (sym (here xs i y within) ∙ ap (node_at (set xs i y)) (sym is)) new
  | inr other ↦ subst P (sym (there xs i k y other)) (all k (omega (arith, lt, length-set xs i y)))
]

-- one node is another: what is left are the pairs with it
pub pairs_set : (R : ℕ → NodeView → ℕ → NodeView → Type 0) (xs : List NodeView) (i : ℕ) (y : NodeView) → i < length xs → AllPairs R xs
    → R i y i y
    → ((j : ℕ) → j < length xs → j ≢ i → R i y j (node_at xs j))
    → ((j : ℕ) → j < length xs → j ≢ i → R j (node_at xs j) i y)
    → AllPairs R (set xs i y)
pairs_set R xs i y within all self from to k j lk lj =
    let size = length-set xs i y in
    let lk : k < length xs = omega arith in
    let lj : j < length xs = omega arith in
    elim (cases_eq k i) [
      | inl k_is ↦ elim (cases_eq j i) [
        | inl j_is ↦ rw (k_is, j_is, here xs i y within) self
        | inr j_other ↦ rw (k_is, here xs i y within, there xs i j y j_other) (from j lj j_other)
      ]
      | inr k_other ↦ elim (cases_eq j i) [
        | inl j_is ↦ rw (j_is, here xs i y within, there xs i k y k_other) (to k lk k_other)
        | inr j_other ↦ rw (there xs i k y k_other, there xs i j y j_other) (all k j lk lj)
      ]
    ]

-- two nodes are others
pub pairs_set2 : (R : ℕ → NodeView → ℕ → NodeView → Type 0) (xs : List NodeView) (i j : ℕ) (y z : NodeView) → i < length xs → j < length xs → i ≢ j
    → AllPairs R xs
    → R i y i y → R j z j z → R i y j z → R j z i y
    → ((k : ℕ) → k < length xs → k ≢ i → k ≢ j → (R i y k (node_at xs k) × R k (node_at xs k) i y) × (R j z k (node_at xs k) × R k (node_at xs k) j z))
    → AllPairs R (set (set xs i y) j z)
pairs_set2 R xs i j y z li lj differ all yy zz yz zy others =
    let ys = set xs i y in
    let size = length-set xs i y in
    let lj_ys : j < length ys = omega arith in
    let size2 = length-set ys j z in
    let at_i : node_at (set ys j z) i ≡ y = there ys j i z differ ∙ here xs i y li in
    let at_j : node_at (set ys j z) j ≡ z = here ys j z lj_ys in
    let at : (k : ℕ) → k ≢ i → k ≢ j → node_at (set ys j z) k ≡ node_at xs k = λ k ni nj. there ys j k z nj ∙ there xs i k y ni in
    λ k l lk ll.
    let lk : k < length xs = omega arith in
    let ll : l < length xs = omega arith in
    elim (cases_eq k i) [
      | inl k_i ↦ elim (cases_eq l i) [
        | inl l_i ↦ rw (k_i, l_i, at_i) yy
        | inr l_ni ↦ elim (cases_eq l j) [
          | inl l_j ↦ rw (k_i, l_j, at_i, at_j) yz
          | inr l_nj ↦ rw (k_i, at_i, at l l_ni l_nj) (others l ll l_ni l_nj).0.0
        ]
      ]
      | inr k_ni ↦ elim (cases_eq k j) [
        | inl k_j ↦ elim (cases_eq l i) [
          | inl l_i ↦ rw (k_j, l_i, at_i, at_j) zy
          | inr l_ni ↦ elim (cases_eq l j) [
            | inl l_j ↦ rw (k_j, l_j, at_j) zz
            | inr l_nj ↦ rw (k_j, at_j, at l l_ni l_nj) (others l ll l_ni l_nj).1.0
          ]
        ]
        | inr k_nj ↦ elim (cases_eq l i) [
          | inl l_i ↦ rw (l_i, at_i, at k k_ni k_nj) (others k lk k_ni k_nj).0.1
          | inr l_ni ↦ elim (cases_eq l j) [
            | inl l_j ↦ rw (l_j, at_j, at k k_ni k_nj) (others k lk k_ni k_nj).1.1
            | inr l_nj ↦ rw (at k k_ni k_nj, at l l_ni l_nj) (all k l lk ll)
          ]
        ]
      ]
    ]

-- one node is another, where nothing was known of it
pairs_off : (R : ℕ → NodeView → ℕ → NodeView → Type 0) (xs : List NodeView) (i : ℕ) (y : NodeView) → i < length xs
    → ((k j : ℕ) → k < length xs → j < length xs → k ≢ i → j ≢ i → R k (node_at xs k) j (node_at xs j))
    → R i y i y
    → ((j : ℕ) → j < length xs → j ≢ i → R i y j (node_at xs j) × R j (node_at xs j) i y)
    → AllPairs R (set xs i y)
pairs_off R xs i y within all self beside k j lk lj =
    let size = length-set xs i y in
    let lk : k < length xs = omega arith in
    let lj : j < length xs = omega arith in
    elim (cases_eq k i) [
      | inl k_is ↦ elim (cases_eq j i) [
        | inl j_is ↦ rw (k_is, j_is, here xs i y within) self
        | inr j_other ↦ rw (k_is, here xs i y within, there xs i j y j_other) (beside j lj j_other).0
      ]
      | inr k_other ↦ elim (cases_eq j i) [
        | inl j_is ↦ rw (j_is, here xs i y within, there xs i k y k_other) (beside k lk k_other).1
        | inr j_other ↦ rw (there xs i k y k_other, there xs i j y j_other) (all k j lk lj k_other j_other)
      ]
    ]

-- three nodes are others
pub pairs_set3 : (R : ℕ → NodeView → ℕ → NodeView → Type 0) (xs : List NodeView) (i j q : ℕ) (y z w : NodeView) → i < length xs → j < length xs
    → q < length xs → i ≢ j → i ≢ q → j ≢ q → AllPairs R xs
    → R i y i y → R j z j z → R q w q w → (R i y j z × R j z i y) → (R i y q w × R q w i y) → (R j z q w × R q w j z)
    → ((k : ℕ) → k < length xs → k ≢ i → k ≢ j → k ≢ q → (R i y k (node_at xs k) × R k (node_at xs k) i y) × (R j z k (node_at xs k) × R k (node_at xs k) j z) × (R q w k (node_at xs k) × R k (node_at xs k) q w))
    → AllPairs R (set (set (set xs i y) j z) q w)
pairs_set3 R xs i j q y z w li lj lq ij iq jq all yy zz ww yz yw zw others =
    let ys = set xs i y in
    let zs = set ys j z in
    let size : length zs ≡ length xs = length-set ys j z ∙ length-set xs i y in
    let at_i : node_at zs i ≡ y = there ys j i z ij ∙ here xs i y li in
    let at_j : node_at zs j ≡ z = here ys j z (omega (arith, lj, length-set xs i y)) in
    let at : (k : ℕ) → k ≢ i → k ≢ j → node_at zs k ≡ node_at xs k = λ k ni nj. there ys j k z nj ∙ there xs i k y ni in
    let off : AllPairs (λ k n l m. k ≢ q → l ≢ q → R k n l m) zs = pairs_set2 (λ k n l m. k ≢ q → l ≢ q → R k n l m) xs i j y z li lj ij (λ k l lk ll _ _. all k l lk ll)
    (λ _ _. yy) (λ _ _. zz) (λ _ _. yz.0) (λ _ _. yz.1)
    (λ k lk ni nj. ((λ _ nq. (others k lk ni nj nq).0.0, λ nq _. (others k lk ni nj nq).0.1), (λ _ nq. (others k lk ni nj nq).1.0, λ nq _. (others k lk ni nj nq).1.1))) in
    pairs_off R zs q w (omega (arith, lq, size)) (λ k l lk ll nk nl. off k l lk ll nk nl) ww (λ k lk nq. elim (cases_eq k i) [
      | inl k_i ↦ rw (k_i, at_i) (yw.1, yw.0)
      | inr k_ni ↦ elim (cases_eq k j) [
        | inl k_j ↦ rw (k_j, at_j) (zw.1, zw.0)
        | inr k_nj ↦ rw (at k k_ni k_nj) (others k (omega (arith, lk, size)) k_ni k_nj nq).2
      ]
    ])

-- one node more
pub nodes_push : (P : NodeView → Type 0) (xs : List NodeView) (y : NodeView) → AllNodes P xs → P y → AllNodes P (xs ++ y ∷ [])
nodes_push P xs y all new k lt =
    let size : length (xs ++ y ∷ []) ≡ length xs + 1 = length-append xs (y ∷ []) in
    elim (cases_eq k (length xs)) [
      | inl is ↦ rw (is, last xs y) new
      | inr other ↦ rw (before xs y k (omega arith)) (all k (omega arith))
    ]

-- a fact of each two, where one is added
pub pairs_push : (R : ℕ → NodeView → ℕ → NodeView → Type 0) (xs : List NodeView) (y : NodeView) → AllPairs R xs
    → R (length xs) y (length xs) y
    → ((j : ℕ) → j < length xs → R (length xs) y j (node_at xs j))
    → ((j : ℕ) → j < length xs → R j (node_at xs j) (length xs) y)
    → AllPairs R (xs ++ y ∷ [])
pairs_push R xs y all self from to k j lk lj =
    let size : length (xs ++ y ∷ []) ≡ length xs + 1 = length-append xs (y ∷ []) in
    elim (cases_eq k (length xs)) [
      | inl k_is ↦ elim (cases_eq j (length xs)) [
        | inl j_is ↦ rw (k_is, j_is, last xs y) self
        | inr j_other ↦ rw (k_is, last xs y, before xs y j (omega arith)) (from j (omega arith))
      ]
      | inr k_other ↦ elim (cases_eq j (length xs)) [
        | inl j_is ↦ rw (j_is, last xs y, before xs y k (omega arith)) (to k (omega arith))
        | inr j_other ↦ rw (before xs y k (omega arith), before xs y j (omega arith)) (all k j (omega arith) (omega arith))
      ]
    ]

-- the facts of all nodes, where one of them is another
pub are_set : (xs : List NodeView) (i : ℕ) (y : NodeView) → i < length xs → AreNodes xs → IsNode (length xs) y
    → IsPair i y i y
    → ((j : ℕ) → j < length xs → j ≢ i → IsPair i y j (node_at xs j))
    → ((j : ℕ) → j < length xs → j ≢ i → IsPair j (node_at xs j) i y)
    → AreNodes (set xs i y)
are_set xs i y within nodes one self from to = record {
  each = subst (λ n. AllNodes (IsNode n) (set xs i y)) (sym (length-set xs i y)) (nodes_set (IsNode (length xs)) xs i y within nodes.each one);
  pairs = pairs_set IsPair xs i y within nodes.pairs self from to;
}

-- and where two are
pub are_set2 : (xs : List NodeView) (i j : ℕ) (y z : NodeView) → i < length xs → j < length xs → i ≢ j → AreNodes xs → IsNode (length xs) y
    → IsNode (length xs) z
    → IsPair i y i y → IsPair j z j z → IsPair i y j z → IsPair j z i y
    → ((k : ℕ) → k < length xs → k ≢ i → k ≢ j → (IsPair i y k (node_at xs k) × IsPair k (node_at xs k) i y) × (IsPair j z k (node_at xs k) × IsPair k (node_at xs k) j z))
    → AreNodes (set (set xs i y) j z)
are_set2 xs i j y z li lj differ nodes one two yy zz yz zy others =
    let size = length-set xs i y in
    let size2 = length-set (set xs i y) j z in
    record {
      each =
          subst (λ n. AllNodes (IsNode n) (set (set xs i y) j z)) (sym (size2 ∙ size)) (nodes_set (IsNode (length xs)) (set xs i y) j z (omega arith) (nodes_set (IsNode (length xs)) xs i y li nodes.each one) two);
      pairs = pairs_set2 IsPair xs i j y z li lj differ nodes.pairs yy zz yz zy others;
    }

-- and where three are
pub are_set3 : (xs : List NodeView) (i j q : ℕ) (y z w : NodeView) → i < length xs → j < length xs → q < length xs → i ≢ j → i ≢ q → j ≢ q → AreNodes xs
    → IsNode (length xs) y → IsNode (length xs) z → IsNode (length xs) w
    → IsPair i y i y → IsPair j z j z → IsPair q w q w → (IsPair i y j z × IsPair j z i y) → (IsPair i y q w × IsPair q w i y)
    → (IsPair j z q w × IsPair q w j z)
    → ((k : ℕ) → k < length xs → k ≢ i → k ≢ j → k ≢ q → (IsPair i y k (node_at xs k) × IsPair k (node_at xs k) i y) × (IsPair j z k (node_at xs k) × IsPair k (node_at xs k) j z) × (IsPair q w k (node_at xs k) × IsPair k (node_at xs k) q w))
    → AreNodes (set (set (set xs i y) j z) q w)
are_set3 xs i j q y z w li lj lq ij iq jq nodes one two three yy zz ww yz yw zw others =
    let size = length-set xs i y in
    let size2 = length-set (set xs i y) j z in
    let size3 = length-set (set (set xs i y) j z) q w in
    record {
      each = subst (λ n. AllNodes (IsNode n) (set (set (set xs i y) j z) q w)) (sym (size3 ∙ size2 ∙ size))
          (nodes_set (IsNode (length xs)) (set (set xs i y) j z) q w (omega arith) (nodes_set (IsNode (length xs)) (set xs i y) j z (omega arith) (nodes_set (IsNode (length xs)) xs i y li nodes.each one) two) three);
      pairs = pairs_set3 IsPair xs i j q y z w li lj lq ij iq jq nodes.pairs yy zz ww yz yw zw others;
    }

-- and where one more is added
pub nodes_pushed : (xs : List NodeView) (y : NodeView) → AreNodes xs → IsNode (length xs + 1) y
    → IsPair (length xs) y (length xs) y
    → ((j : ℕ) → j < length xs → IsPair (length xs) y j (node_at xs j))
    → ((j : ℕ) → j < length xs → IsPair j (node_at xs j) (length xs) y)
    → AreNodes (xs ++ y ∷ [])
nodes_pushed xs y nodes one self from to =
    let size : length (xs ++ y ∷ []) ≡ length xs + 1 = length-append xs (y ∷ []) in
    record {
      each =
          subst (λ n. AllNodes (IsNode n) (xs ++ y ∷ [])) (sym size) (nodes_push (IsNode (length xs + 1)) xs y (λ k lt. node_more (length xs) (length xs + 1) (node_at xs k) (omega arith) (nodes.each k lt)) one);
      pairs = pairs_push IsPair xs y nodes.pairs self from to;
    }
