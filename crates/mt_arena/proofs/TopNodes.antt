-- The facts of nodes, of trees and of links are kept as a new root comes over two halves, in an old place or in a new one: for `Topping`.
use Rattle.std.proofs.Common.{◌≡◌, ◌≢◌, ℕ, ◌+◌, ◌<◌, ◌≤◌, ◌++◌, List, length, get_or, set, true, false, refl, sym, ap, subst, ◌∙◌, inl, inr, arith}
use Rattle.std.proofs.{lemmas.Bool.cases_eq, lemmas.List.{length-set, get_or-set_same, get_or-set_other, get_or_default}}
use Rattle.mt_slices.specs.{Slices.piece_bytes, declared.mark.Mark.TheVariants.Long}
use Rattle.mt_rows.specs.Rows.{Bytes}
use Rattle.mt_version.specs.Parts.{Parts}
use Rattle.mt_arena.specs.{declared.tree.Tree.Tree, NodeView.{NodeView, node_at}}
use Rattle.mt_arena.specs.{Nodes.{AreNodes, Holds}, Ranges.AreRanged, Forests.{IsForest, tree_at, no_tree}, Layers.{AreLayered, slot_at}}
use Rattle.mt_arena.specs.{Guarantee.{NodesGuarantee, TreeChanges}, Settled.IsSettled}
use Rattle.mt_arena.specs.{Accesses.at, Growth.{AreRootHalves, left_below, right_below}}
use Rattle.mt_arena.proofs.{Pairs.there, Grow.{IsOfTop, top_with, none_above, grown_nodes, settled_top}, GrowStep.forest_grown}
use Rattle.mt_arena.proofs.Guarantees.{changes_none, tree_changes_none}
use Rattle.mt_arena.proofs.Vacant.{IsUnnamed}

-- what was read is the tree's record
pub read_tree : (trees : List Tree) (t : ℕ) (tree : Tree) → t < length trees → tree ≡ get_or trees t tree → tree ≡ tree_at trees t
read_tree trees t tree within is = is ∙ get_or_default trees t tree no_tree within

-- links, where the records of trees keep prefix and standing
pub layers_trees : (xs : List NodeView) (were are : List Tree) → length are ≡ length were
    → ((u : ℕ) → (tree_at are u).prefix ≡ (tree_at were u).prefix) → ((u : ℕ) → (tree_at are u).standing ≡ (tree_at were u).standing)
    → AreLayered xs were → AreLayered xs are
layers_trees xs were are count prefix standing layers = record {
  links = λ k lt live a u lt_a is.
      let leads = layers.links k lt live a u lt_a is in
      let t = (node_at xs k).tree in
      record {
        from = standing t ∙ leads.from;
        there = omega (arith, leads.there, count);
        live = standing u ∙ leads.live;
        prefix = prefix u ∙ leads.prefix ∙ ap (λ (p : Bytes). p ++ piece_bytes (slot_at (node_at xs k) a).slice Long) (sym (prefix t));
      };
  linked = λ u lt live deep. layers.linked u (omega (arith, lt, count)) (sym (standing u) ∙ live) (λ e. deep (prefix u ∙ e));
}

-- one tree's record changes
pub guarantee_record : (op : ℕ) (nodes : List NodeView) (trees : List Tree) (t : ℕ) (tree : Tree) → t < length trees
    → TreeChanges op (tree_at trees t) tree → NodesGuarantee op nodes nodes trees (set trees t tree)
guarantee_record op nodes trees t tree within change = record {
  count = omega arith;
  tree_count = omega (arith, length-set trees t tree);
  nodes = λ k lt. changes_none op (node_at nodes k);
  trees = λ u lt. elim (cases_eq u t) [
    | inl is ↦ rw (is, get_or-set_same trees t tree no_tree within) change
    | inr other ↦ rw (get_or-set_other trees t u tree no_tree other) (tree_changes_none op (tree_at trees u))
  ];
  made = λ k q lt other e. refl;
  made_new = λ k q from lt. absurd (omega (arith, from, lt));
  taken_new = λ k q from lt. absurd (omega (arith, from, lt));
}

-- the nodes with one more at number h, in a new place or in an old one: it is no root, and no live node names it
pub record HasBare (xs zs : List NodeView) (trees : List Tree) (i j h : ℕ) : Type 0 where
  pub nodes : AreNodes zs
  pub forest : IsForest zs trees
  pub unnamed : IsUnnamed zs h
  pub inside : h < length zs
  pub more : length xs ≤ length zs
  pub rootless : (node_at zs h).version.root ≡ false
  pub left : i ≢ h
  pub right : j ≢ h
  pub at_left : node_at zs i ≡ node_at xs i
  pub at_right : node_at zs j ≡ node_at xs j
  pub others : (k : ℕ) → k < length zs → k ≢ h → (k < length xs) × (node_at zs k ≡ node_at xs k)

-- the new root comes there
module _ (xs zs : List NodeView) (trees : List Tree) (i j h op : ℕ) (version : Parts) (of_top : IsOfTop version) (f : AreRootHalves xs i j) (nodes : AreNodes xs)
    (ranged : AreRanged xs) (is_root : (node_at xs i).version.root ≡ true) (no_root : (node_at xs j).version.root ≡ false) (b : HasBare xs zs trees i j h) where
  abbrev l : NodeView
  l = node_at xs i

  abbrev y : NodeView
  y = left_below l h

  abbrev z : NodeView
  z = right_below (node_at xs j) h

  abbrev g : NodeView
  g = top_with version xs i j op

  abbrev vs : List NodeView
  vs = set (set (set zs i y) j z) h g

  halves_z : AreRootHalves zs i j
  halves_z = record {
    left_there = omega (arith, f.left_there, b.more);
    right_there = omega (arith, f.right_there, b.more);
    differ = f.differ;
    left_live = rw b.at_left f.left_live;
    right_live = rw b.at_right f.right_live;
    left_parentless = rw b.at_left f.left_parentless;
    right_parentless = rw b.at_right f.right_parentless;
    right_tree = rw (b.at_left, b.at_right) f.right_tree;
    right_level = rw (b.at_left, b.at_right) f.right_level;
    left_low = rw b.at_left f.left_low;
    fence = rw (b.at_left, b.at_right) f.fence;
    right_high = rw b.at_right f.right_high;
    right_reach = rw b.at_right f.right_reach;
    above = rw b.at_right f.above;
    below = rw b.at_right f.below;
  }

  alone : (k : ℕ) → k < length zs → k ≢ h → (node_at zs k).tree ≡ (node_at zs i).tree → (node_at zs k).level ≡ (node_at zs i).level + 1
      → (node_at zs k).version.deleted ≡ false → (s : ℕ) → Holds (node_at zs k) s → 18446744073709551616 ≤ s
  alone k lk other = let was = b.others k lk other in rw (b.at_left, was.1) (none_above xs i j nodes ranged f k was.0)

  pub nodes_top : AreNodes vs
  nodes_top = rw (b.at_left, b.at_right) at (grown_nodes zs i j h op version of_top b.nodes halves_z b.inside b.unnamed b.left b.right alone)

  pub settled_top_at : IsSettled vs h g
  settled_top_at = rw (b.at_left, b.at_right) at (settled_top zs i j h op version of_top b.nodes halves_z b.inside b.unnamed b.left b.right alone)

  pub forest_top : IsForest vs (set trees l.tree (record (tree_at trees l.tree) { root = h }))
  forest_top = subst (λ (n : NodeView). IsForest vs (set trees n.tree (record (tree_at trees n.tree) { root = h }))) b.at_left (rw (b.at_left, b.at_right) at
      (forest_grown zs trees i j h op version of_top halves_z b.forest (rw b.at_left is_root) (rw b.at_right no_root) b.inside b.left b.right b.rootless))

-- only its root changes of the tree's record
module _ (trees : List Tree) (t root : ℕ) (within : t < length trees) where
  abbrev tree : Tree
  tree = record (tree_at trees t) { root = root }

  pub same_prefix : (u : ℕ) → (tree_at (set trees t tree) u).prefix ≡ (tree_at trees u).prefix
  same_prefix u = elim (cases_eq u t) [
    | inl is ↦ rw (is, get_or-set_same trees t tree no_tree within) refl
    | inr other ↦ ap (λ (w : Tree). w.prefix) (get_or-set_other trees t u tree no_tree other)
  ]

  pub same_standing : (u : ℕ) → (tree_at (set trees t tree) u).standing ≡ (tree_at trees u).standing
  same_standing u = elim (cases_eq u t) [
    | inl is ↦ rw (is, get_or-set_same trees t tree no_tree within) refl
    | inr other ↦ ap (λ (w : Tree). w.standing) (get_or-set_other trees t u tree no_tree other)
  ]
