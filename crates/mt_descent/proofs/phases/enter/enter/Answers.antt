-- What is kept at a root.
use Rattle.std.proofs.Common.{rules, ap, subst, ◌∙◌}
use Rattle.mt_version.specs.Changes.{IsStable}
use Rattle.mt_arena.specs.{declared.tree.Tree.Tree, NodeView.NodeView, Accesses.at}
use Rattle.mt_descent.proofs.Ways.{kept_entered}
use Rattle.mt_descent.proofs.phases.enter.enter.Goals as goal

pub returns-else-eq-clause-kept : goal.returns-else-eq-clause-kept
returns-else-eq-clause-kept c past row =
    let stable = subst (λ (n : NodeView). IsStable n.version) (c.node-root.ensures ∙ ap (λ (t : Tree). at c.args.arena.now t.root) c.tree-tree.ensures) c.in_default.ensures.none in
    rw (c.onto.ensures, c.version.ensures, c.node-root.ensures, c.tree-tree.ensures)
    (kept_entered c.args.arena.now past c.args.key.now row c.args.walk.now c.facts.ensures.arena c.requires.kept (λ dead. search rules) stable)
