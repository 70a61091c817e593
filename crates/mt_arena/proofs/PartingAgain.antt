-- The facts of nodes and their ranges are kept where a full parent is parted and its right half comes into an old place: for `PartingAt`.
use Rattle.std.proofs.Common.{◌≡◌, ◌≢◌, ℕ, ◌<◌, List, length, set, None, false, refl, sym, ap, subst, ◌∙◌, arith}
use Rattle.std.proofs.{lemmas.List.{length-set, set-set}}
use Rattle.mt_arena.specs.{NodeView.{NodeView, node_at}, Nodes.{AreNodes, HasRange}, Ranges.AreRanged}
use Rattle.mt_arena.specs.{Accesses.at, Edits.{bare, splitting, again}}
use Rattle.mt_arena.specs.{Splits.{Inserts, with_child, exact, middle, inner_left, inner_right}}
use Rattle.mt_arena.proofs.{Pairs.{here, there}, Quiet.nodes_splitting, Child.left_child, Inner.SplitsInner, InnerSplit.{given, nodes_split_inner}}
use Rattle.mt_arena.proofs.{Ranged.IsBeside, RangedEdits.ranged_parts_left, Naming.each_set2}
use Rattle.mt_arena.proofs.{Inserting.{apart_j, is_interior}}
use Rattle.mt_arena.proofs.Vacant.{IsVacant, apart_vacant, set_out, unnamed_vacant, nodes_bare_again, ranged_vacant}

-- the nodes: a node without range comes into the old place, the parent is marked, and the children are parted
module _ (xs : List NodeView) (i j q p op : ℕ) (nodes : AreNodes xs) (f : Inserts xs i j q) (full : length (node_at xs i).separators ≡ 15)
    (next : (node_at xs i).next ≡ None) (vacant : IsVacant xs p) (inner : (node_at xs p).version.border ≡ false) where
  abbrev x : NodeView
  x = node_at xs i

  abbrev l : NodeView
  l = node_at xs j

  abbrev r : NodeView
  r = node_at xs q

  abbrev m : NodeView
  m = splitting x

  abbrev wide : NodeView
  wide = with_child m r.low q

  abbrev t : NodeView
  t = again (node_at xs p) (bare false x.tree x.level (middle wide) op)

  abbrev u : NodeView
  u = again (node_at xs p) (inner_right wide op)

  abbrev ys : List NodeView
  ys = set xs p t

  abbrev zs : List NodeView
  zs = set ys i m

  abbrev halves : List NodeView
  halves = set (set xs i (inner_left wide)) j (exact l)

  pub ip : i ≢ p
  ip = apart_vacant xs i p vacant f.parent_live

  pub jp : j ≢ p
  jp = apart_vacant xs j p vacant (left_child xs i j q nodes f).live

  qp : q ≢ p
  qp = apart_vacant xs q p vacant f.right_live

  ij : i ≢ j
  ij = apart_j xs i j q nodes f

  qi : q ≢ i
  qi e = omega (arith, f.right_level, ap (λ k. (node_at xs k).level) e)

  size_y : length ys ≡ length xs
  size_y = length-set xs p t

  size_z : length zs ≡ length xs
  size_z = length-set ys i m ∙ size_y

  at_x : node_at ys i ≡ x
  at_x = there xs p i t ip

  at_i : node_at zs i ≡ m
  at_i = here ys i m (omega (arith, f.parent_there, size_y))

  at_j : node_at zs j ≡ l
  at_j = there ys i j m (λ e. ij (sym e)) ∙ there xs p j t jp

  at_q : node_at zs q ≡ r
  at_q = there ys i q m qi ∙ there xs p q t qp

  at_p : node_at zs p ≡ t
  at_p = there ys i p m (λ e. ip (sym e)) ∙ here xs p t vacant.there

  nodes_z : AreNodes zs
  nodes_z = subst (λ (n : NodeView). AreNodes (set ys i (splitting n))) at_x
      (nodes_splitting ys i (omega (arith, f.parent_there, size_y)) (nodes_bare_again xs p x.tree x.level (middle wide) op vacant inner (is_interior xs i j q nodes f) nodes) (rw at_x f.parent_held))

  inserts : Inserts zs i j q
  inserts = record {
    parent_there = omega (arith, size_z, f.parent_there);
    left_there = omega (arith, size_z, f.left_there);
    right_there = omega (arith, size_z, f.right_there);
    parent_held = rw at_i f.parent_held;
    parent_live = rw at_i f.parent_live;
    child = rw at_i f.child;
    differ = f.differ;
    right_live = rw at_q f.right_live;
    right_tree = rw (at_q, at_i) f.right_tree;
    right_level = rw (at_q, at_i) f.right_level;
    right_knows = rw at_q f.right_knows;
    fence = rw (at_j, at_q) f.fence;
    right_reach = rw (at_j, at_q) f.right_reach;
    above = rw (at_j, at_q) f.above;
    below = rw (at_j, at_q) f.below;
  }

  splits : SplitsInner m t (middle wide)
  splits = record {
    marked = refl;
    next = next;
    right_held = λ e. absurd (cc);
    right_marked = refl;
    right_live = refl;
    right_tree = refl;
    right_level = refl;
    right_next = refl;
    right_low = refl;
    right_reach = refl;
  }

  splits_z : SplitsInner (node_at zs i) (node_at zs p) (middle (with_child (node_at zs i) (node_at zs q).low q))
  splits_z = rw (at_i, at_p, at_q) splits

  full_z : length (node_at zs i).separators ≡ 15
  full_z = rw at_i full

  same : set (set (set zs i (inner_left wide)) j (exact l)) p u ≡ set halves p u
  same = ap (λ (vs : List NodeView). set (set vs j (exact l)) p u) (set-set ys i m (inner_left wide)) ∙ set_out xs i j p (inner_left wide) (exact l) t u ip jp

  parted_z : AreNodes (set (set (set zs i (inner_left (with_child (node_at zs i) (node_at zs q).low q))) j (exact (node_at zs j))) p (given (with_child (node_at zs i) (node_at zs q).low q) (node_at zs p)))
  parted_z = nodes_split_inner zs i j q p nodes_z inserts full_z (omega (arith, size_z, vacant.there)) ip splits_z

  pub nodes_parts_again : AreNodes (set halves p u)
  nodes_parts_again = subst AreNodes same (rw (at_i, at_j, at_q, at_p) at parted_z)

  -- what stands in the place meanwhile
  pub at_halves : node_at halves p ≡ node_at xs p
  at_halves = there (set xs i (inner_left wide)) j p (exact l) (λ e. jp (sym e)) ∙ there xs i p (inner_left wide) (λ e. ip (sym e))

  size_h : length halves ≡ length xs
  size_h = length-set (set xs i (inner_left wide)) j (exact l) ∙ length-set xs i (inner_left wide)

  pub vacant_halves : IsVacant halves p
  vacant_halves = record { there = omega (arith, vacant.there, size_h); out = ap (λ (n : NodeView). n.version.deleted) at_halves ∙ vacant.out; free = ap (λ (n : NodeView). n.holder) at_halves ∙ vacant.free }

  -- no live node names it
  beside : (k : ℕ) → k < length halves → (node_at halves k).version.deleted ≡ false → IsBeside p (node_at halves k)
  beside k lk =
      let unnamed = unnamed_vacant xs p nodes vacant in
      each_set2 (λ k n. n.version.deleted ≡ false → IsBeside p n) xs i j (inner_left wide) (exact l) f.parent_there f.left_there ij
      (λ live. (unnamed.next i f.parent_there live, unnamed.previous i f.parent_there live))
      (λ live. (unnamed.next j f.left_there live, unnamed.previous j f.left_there live))
      (λ k lk ni nj live. (unnamed.next k lk live, unnamed.previous k lk live)) k (omega (arith, lk, size_h))

  pub ranged_parts_again : AreRanged xs → HasRange (inner_left wide) → HasRange (inner_right wide op) → AreRanged (set halves p u)
  ranged_parts_again ranged left right =
      ranged_vacant halves p u (omega (arith, vacant.there, size_h)) beside (ranged_parts_left xs i j r.low q op f.parent_there f.left_there ij ranged left right) right
      ((ranged.each i f.parent_there).fits (omega (arith, left, right))) refl
