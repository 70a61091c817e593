-- Two nodes of a list that is cut in two are those of the whole list: for the bodies that change two nodes at once.
use Rattle.std.proofs.Common.{◌≡◌, ◌≢◌, ℕ, zero, suc, ◌+◌, ◌<◌, ◌≤◌, List, [], ◌∷◌, ◌++◌, length, take, drop, get_or, set, Option, refl, sym, ap, ◌∙◌, arith}
use Rattle.std.proofs.lemmas.List.{get_or-take, get_or-drop, get_or_default, set_comm, length-set, take_at}
use Rattle.mt_border.specs.{declared.entry.Entry.Entry, Split.IsParted, Slots.{IsRenewed, IsFresh}}
use Rattle.mt_arena.specs.{NodeView.{NodeView, node_at, no_node}, Splits.{with_some, left_half, right_half}, Several.AreHalved}

-- the first node behind is another
back_set : (xs : List NodeView) (j : ℕ) (z : NodeView) → j < length xs → take j xs ++ set (drop j xs) 0 z ≡ set xs j z
back_set [] j z lt = absurd (omega (arith, lt))
back_set (x ∷ xs) zero z lt = refl
back_set (x ∷ xs) (suc j) z lt = ap (λ ys. x ∷ ys) (back_set xs j z (omega (arith, lt)))

-- and one before it too
pub both_set : (xs : List NodeView) (i j : ℕ) (y z : NodeView) → i < j → j < length xs → set (take j xs) i y ++ set (drop j xs) 0 z ≡ set (set xs i y) j z
both_set [] i j y z lt within = absurd (omega (arith, within))
both_set (x ∷ xs) i zero y z lt within = absurd (omega (arith, lt))
both_set (x ∷ xs) zero (suc j) y z lt within = ap (λ ys. y ∷ ys) (back_set xs j z (omega (arith, within)))
both_set (x ∷ xs) (suc i) (suc j) y z lt within = ap (λ ys. x ∷ ys) (both_set xs i j y z (omega (arith, lt)) (omega (arith, within)))

-- a node and its right half, of which one stands before the other
module _ (all : List Entry) (xs : List NodeView) (i j : ℕ) (y z : NodeView) where
  abbrev x : NodeView
  x = node_at xs i

  abbrev r : NodeView
  r = node_at xs j

  -- the two halves as the clause of a split wants them
  pub halved : (ys : List NodeView) → ys ≡ set (set xs i y) j z → IsParted all y.slots z.slots r.low → 0 < length y.slots → 0 < length z.slots
      → IsRenewed x.cells.dropped y.cells → IsFresh z.cells → y ≡ left_half x y.slots y.cells r.low j → z ≡ right_half x r z.slots z.cells i → AreHalved all xs ys i j
  halved ys are parted some_kept some_moved renewed fresh left right = record {
    kept = y.slots;
    moved = z.slots;
    kept_cells = y.cells;
    moved_cells = z.cells;
    parted = parted;
    some_kept = some_kept;
    some_moved = some_moved;
    renewed = renewed;
    fresh = fresh;
    is = are ∙ ap (λ (n : NodeView). set (set xs i n) j z) left ∙ ap (λ (n : NodeView). set (set xs i (left_half x y.slots y.cells r.low j)) j n) right;
  }

-- and where the right one stands before the left one
pub both_back : (xs : List NodeView) (i j : ℕ) (y z : NodeView) → i ≢ j → j ≤ i → i < length xs
    → set (take i xs) j z ++ set (drop i xs) 0 y ≡ set (set xs i y) j z
both_back xs i j y z differ le within = both_set xs j i z y (omega (arith, differ, le)) within ∙ set_comm xs j i z y (λ e. differ (sym e))

-- what was read of the two parts
pub in_front : (xs front : List NodeView) (i j : ℕ) (d : NodeView) → front ≡ take j xs → i < j → j < length xs → get_or front i d ≡ node_at xs i
in_front xs front i j d is lt within = ap (λ ys. get_or ys i d) is ∙ get_or-take j xs i d lt ∙ get_or_default xs i d no_node (omega (arith, lt, within))

-- the first node behind a cut is the one of that number
pub in_back : (xs back : List NodeView) (j : ℕ) (d : NodeView) → back ≡ drop j xs → j < length xs → get_or back 0 d ≡ node_at xs j
in_back xs back j d is within =
    ap (λ ys. get_or ys 0 d) is ∙ get_or-drop j xs 0 d ∙ ap (λ k. get_or xs k d) {x = j + 0} {y = j} (omega arith) ∙ get_or_default xs j d no_node within

-- both halves, where the left one stands before the right one, and behind it
module _ (entry : Option Entry) (xs front back : List NodeView) (i j : ℕ) (d e y z : NodeView) where
  pub halved_front : front ≡ take j xs → back ≡ drop j xs → i < j → j < length xs
      → IsParted (with_some (get_or front i d).slots entry) y.slots z.slots (get_or back 0 e).low → 0 < length y.slots → 0 < length z.slots
      → IsRenewed (get_or front i d).cells.dropped y.cells → IsFresh z.cells
      → y ≡ left_half (get_or front i d) y.slots y.cells (get_or back 0 e).low j → z ≡ right_half (get_or front i d) (get_or back 0 e) z.slots z.cells i
      → AreHalved (with_some (node_at xs i).slots entry) xs (set front i y ++ set back 0 z) i j
  halved_front first second lt within parted some_kept some_moved renewed fresh left right =
      let x_is = in_front xs front i j d first lt within in
      let r_is = in_back xs back j e second within in
      halved _ xs i j y z (set front i y ++ set back 0 z) (rw (first, second) (both_set xs i j y z lt within))
      (rw (x_is, r_is) at parted) some_kept some_moved (rw x_is at renewed) fresh (rw (x_is, r_is) at left) (rw (x_is, r_is) at right)

  pub halved_back : front ≡ take i xs → back ≡ drop i xs → i ≢ j → j ≤ i → i < length xs
      → IsParted (with_some (get_or back 0 d).slots entry) y.slots z.slots (get_or front j e).low → 0 < length y.slots → 0 < length z.slots
      → IsRenewed (get_or back 0 d).cells.dropped y.cells → IsFresh z.cells
      → y ≡ left_half (get_or back 0 d) y.slots y.cells (get_or front j e).low j → z ≡ right_half (get_or back 0 d) (get_or front j e) z.slots z.cells i
      → AreHalved (with_some (node_at xs i).slots entry) xs (set front j z ++ set back 0 y) i j
  halved_back first second differ le within parted some_kept some_moved renewed fresh left right =
      let r_is = in_front xs front j i e first (omega (arith, differ, le)) within in
      let x_is = in_back xs back i d second within in
      halved _ xs i j y z (set front j z ++ set back 0 y) (rw (first, second) (both_back xs i j y z differ le within))
      (rw (x_is, r_is) at parted) some_kept some_moved (rw x_is at renewed) fresh (rw (x_is, r_is) at left) (rw (x_is, r_is) at right)

-- the whole list, written back: two writes keep the number of nodes
pub written : (all : List Entry) (xs ws : List NodeView) (n i j : ℕ) → length xs ≡ n → AreHalved all xs ws i j → take n (ws ++ drop (length ws) xs) ≡ ws
written all xs ws n i j whole h = take_at ws (drop (length ws) xs) n (ap length h.is ∙ length-set (set xs i _) j _ ∙ length-set xs i _ ∙ whole)
