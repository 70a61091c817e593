-- The facts of nodes are kept as a right half comes to stand in a full parent, which is parted: for `Parting`.
use Rattle.std.proofs.{Common.{◌≡◌, ◌≢◌, ℕ, ◌+◌, ◌<◌, List, length, get_or, drop, set, sym, ap, subst, ◌∙◌, inl, inr, arith}, lemmas.Bool.cases_eq}
use Rattle.std.proofs.lemmas.List.{length-set, set-set, set_comm}
use Rattle.std.specs.List.{insert}
use Rattle.mt_arena.specs.{NodeView.{NodeView, node_at}, Nodes.{AreNodes, AllNodes, AllPairs, IsNode, IsPair, HasRange}}
use Rattle.mt_arena.specs.Splits.{Inserts, with_child, exact, middle, inner_left}
use Rattle.mt_arena.proofs.Pairs.{here, there, nodes_set}
use Rattle.mt_arena.proofs.Child.{inserts_at, inserted_pairs, children_within, sizes, still_rise, differ_ij, left_child, left_node as exact_node}
use Rattle.mt_arena.proofs.Inner.{IsWide, SplitsInner, parted_pairs, left_node, right_node, halves_range}

-- a right half that gets the upper children, and the range from its low fence on
abbrev pub given : NodeView → NodeView → NodeView
given wide r = record r { separators = drop 9 wide.separators; children = drop 9 wide.children; high = wide.high; reach = wide.reach }

module _ (xs : List NodeView) (i j q h : ℕ) (nodes : AreNodes xs) (f : Inserts xs i j q) (full : length (node_at xs i).separators ≡ 15) (lh : h < length xs) (differ : i ≢ h)
    (s : SplitsInner (node_at xs i) (node_at xs h) (get_or (insert (node_at xs i).separators f.child.place (node_at xs q).low) 8 0)) where
  abbrev p : NodeView
  p = node_at xs i

  abbrev t : NodeView
  t = node_at xs h

  abbrev separators : List ℕ
  separators = insert p.separators f.child.place (node_at xs q).low

  abbrev children : List ℕ
  children = insert p.children (f.child.place + 1) q

  abbrev w : NodeView
  w = record p { separators = separators; children = children }

  abbrev z : NodeView
  z = exact (node_at xs j)

  abbrev y : NodeView
  y = inner_left w

  abbrev u : NodeView
  u = given w t

  abbrev ws : List NodeView
  ws = set (set xs i w) j z

  li : i < length xs
  li = f.parent_there

  lj : j < length xs
  lj = f.left_there

  ij : i ≢ j
  ij = differ_ij xs i j q nodes f

  -- the two halves are a level above the left child
  hj : h ≢ j
  hj e = omega (arith, (left_child xs i j q nodes f).level, ap (λ k. (node_at xs k).level) e, s.right_level)

  size : length ws ≡ length xs
  size = length-set (set xs i w) j z ∙ length-set xs i w

  at_i : node_at ws i ≡ w
  at_i = there (set xs i w) j i z ij ∙ here xs i w li

  at_j : node_at ws j ≡ z
  at_j = here (set xs i w) j z (omega (arith, lj, length-set xs i w))

  at : (k : ℕ) → k ≢ i → k ≢ j → node_at ws k ≡ node_at xs k
  at k ni nj = there (set xs i w) j k z nj ∙ there xs i k w ni

  at_h : node_at ws h ≡ t
  at_h = at h (λ e. differ (sym e)) hj

  each : (k : ℕ) → k < length ws → k ≢ i → IsNode (length ws) (node_at ws k)
  each k lk ni = subst (λ n. IsNode n (node_at ws k)) (sym size) (elim (cases_eq k j) [
    | inl k_j ↦ rw (k_j, at_j) (exact_node xs i j q nodes f)
    | inr k_nj ↦ rw (at k ni k_nj) (nodes.each k (omega (arith, lk, size)))
  ])

  hp : IsNode (length ws) p
  hp = subst (λ n. IsNode n p) (sym size) (nodes.each i li)

  above : 0 < p.level
  above = omega (arith, f.right_level)

  wide : IsWide (length ws) p.low p.high separators children 8
  wide = record {
    between = omega (arith, (sizes xs i j q nodes f).0, (sizes xs i j q nodes f).1);
    in_range = omega (arith, (sizes xs i j q nodes f).0, full);
    left_room = omega arith;
    right_room = omega (arith, (sizes xs i j q nodes f).1, full);
    rise = still_rise xs i j q nodes f;
    there = λ b lt. omega (arith, children_within xs i j q nodes f b lt, size);
  }

  s_ws : SplitsInner p (node_at ws h) (get_or separators 8 0)
  s_ws = subst (λ (n : NodeView). SplitsInner p n (get_or separators 8 0)) (sym at_h) s

  lh_ws : h < length ws
  lh_ws = omega (arith, lh, size)

  li_ws : i < length ws
  li_ws = omega (arith, li, size)

  pairs : AllPairs IsPair (set (set ws i y) h u)
  pairs = subst (λ (n : NodeView). AllPairs IsPair (set (set ws i y) h (given w n))) at_h
      (parted_pairs ws i h 8 p separators children at_i (inserted_pairs xs i j q nodes f) each hp li_ws lh_ws differ f.parent_held f.parent_live above wide s_ws)

  left : IsNode (length xs) y
  left =
      subst (λ n. IsNode n y) size (left_node ws i h 8 p separators children at_i (inserted_pairs xs i j q nodes f) each hp li_ws lh_ws differ f.parent_held f.parent_live above wide s_ws)

  right : IsNode (length xs) u
  right = subst (λ (n : NodeView). IsNode (length xs) (given w n)) at_h
      (subst (λ n. IsNode n (given w (node_at ws h))) size (right_node ws i h 8 p separators children at_i (inserted_pairs xs i j q nodes f) each hp li_ws lh_ws differ f.parent_held f.parent_live above wide s_ws))

  -- the node that was too wide is nowhere
  same : set ws i y ≡ set (set xs i y) j z
  same = set_comm (set xs i w) j i z y (λ e. ij (sym e)) ∙ ap (λ vs. set vs j z) (set-set xs i w y)

  abbrev ys : List NodeView
  ys = set (set (set xs i y) j z) h u

  size_ys : length ys ≡ length xs
  size_ys = length-set (set (set xs i y) j z) h u ∙ length-set (set xs i y) j z ∙ length-set xs i y

  -- the facts of all nodes
  pub parted_nodes : AreNodes ys
  parted_nodes = record {
    each = subst (λ n. AllNodes (IsNode n) ys) (sym size_ys)
        (nodes_set (IsNode (length xs)) (set (set xs i y) j z) h u (omega (arith, lh, length-set xs i y, length-set (set xs i y) j z))
        (nodes_set (IsNode (length xs)) (set xs i y) j z (omega (arith, lj, length-set xs i y)) (nodes_set (IsNode (length xs)) xs i y li nodes.each left) (exact_node xs i j q nodes f)) right);
    pairs = subst (λ (vs : List NodeView). AllPairs IsPair (set vs h u)) same pairs;
  }

  -- both halves have a range
  pub parted_ranges : HasRange y × HasRange u
  parted_ranges =
      let ranges = halves_range ws i h 8 p separators children at_i (inserted_pairs xs i j q nodes f) each hp li_ws lh_ws differ f.parent_held f.parent_live above wide s_ws in
      (ranges.0, subst (λ (n : NodeView). HasRange (given w n)) at_h ranges.1)

-- node q becomes a child of node i, which is full and is parted: node h gets its upper children
pub nodes_split_inner : (xs : List NodeView) (i j q h : ℕ) → AreNodes xs → Inserts xs i j q → length (node_at xs i).separators ≡ 15 → h < length xs → i ≢ h
    → SplitsInner (node_at xs i) (node_at xs h) (middle (with_child (node_at xs i) (node_at xs q).low q))
    → AreNodes (set (set (set xs i (inner_left (with_child (node_at xs i) (node_at xs q).low q))) j (exact (node_at xs j))) h (given (with_child (node_at xs i) (node_at xs q).low q) (node_at xs h)))
nodes_split_inner xs i j q h nodes f full lh differ s =
    rw (inserts_at xs i j q nodes f) (parted_nodes xs i j q h nodes f full lh differ (rw (inserts_at xs i j q nodes f) at s))

-- and both halves have a range
pub ranges_split_inner : (xs : List NodeView) (i j q h : ℕ) → AreNodes xs → Inserts xs i j q → length (node_at xs i).separators ≡ 15 → h < length xs → i ≢ h
    → SplitsInner (node_at xs i) (node_at xs h) (middle (with_child (node_at xs i) (node_at xs q).low q))
    → HasRange (inner_left (with_child (node_at xs i) (node_at xs q).low q)) × HasRange (given (with_child (node_at xs i) (node_at xs q).low q) (node_at xs h))
ranges_split_inner xs i j q h nodes f full lh differ s =
    rw (inserts_at xs i j q nodes f) (parted_ranges xs i j q h nodes f full lh differ (rw (inserts_at xs i j q nodes f) at s))
