-- A border node with a high fence ends at the slice of a stored key: for the law.
use Rattle.std.proofs.{Common.{◌≡◌, ℕ, ◌<◌, false, List, length, Option, Some, None, refl, sym, ap, subst, ◌∙◌, arith}, lemmas.Option.{same_Some, none-some}}
use Rattle.mt_arena.specs.{declared.tree.Tree.Tree, NodeView.{NodeView, node_at}, Nodes.HasRange, Forests.{HasSlice, tree_at}, Arena.IsArena}
use Rattle.mt_arena.proofs.Begins.{begins_at}
use Rattle.mt_interior.specs.Fences.{end_of}

module _ (nodes : List NodeView) (trees : List Tree) (k : ℕ) (arena : IsArena nodes trees) (lk : k < length nodes) (live : (node_at nodes k).version.deleted ≡ false) (border : (node_at nodes k).level ≡ 0) where
  abbrev n : NodeView
  n = node_at nodes k

  -- the next node begins where this one ends, behind where this one begins
  pub next_begins : (x : ℕ) → n.next ≡ Some x → (n.high ≡ Some (node_at nodes x).low) × HasSlice (tree_at trees n.tree).prefix (node_at nodes x).low
  next_begins x is =
      let lx = (arena.nodes.each k lk).names.next x is in
      let beside = (arena.nodes.pairs k x lk lx).next live is in
      let range = (arena.ranged.each k lk).next (λ none. absurd (none-some x (sym none ∙ is))) in
      let over : 0 < (node_at nodes x).low = omega (arith, range, ap end_of beside.meets) in
      (beside.meets, subst (λ t. HasSlice (tree_at trees t).prefix (node_at nodes x).low) beside.tree (begins_at nodes trees x lx arena.forest.begins (beside.live live) (beside.level ∙ border) over))

  -- a node with a range and a high fence has a next one
  ends_by : (o : Option ℕ) (high : ℕ) → n.next ≡ o → HasRange n → n.high ≡ Some high → HasSlice (tree_at trees n.tree).prefix high
  ends_by None high is range some = absurd (none-some high (sym ((arena.nodes.each k lk).chain.last border range is) ∙ some))
  ends_by (Some x) high is range some =
      let next = next_begins x is in
      subst (HasSlice (tree_at trees n.tree).prefix) (same_Some _ _ (sym next.0 ∙ some)) next.1

  pub ends_at_key : (high : ℕ) → HasRange n → n.high ≡ Some high → HasSlice (tree_at trees n.tree).prefix high
  ends_at_key high range some = ends_by n.next high refl range some
