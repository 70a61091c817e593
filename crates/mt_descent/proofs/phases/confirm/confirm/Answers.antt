-- What is kept where a border node has changed.
use Rattle.std.proofs.Common.{subst}
use Rattle.mt_version.specs.Changes.{IsStable}
use Rattle.mt_arena.specs.NodeView.{NodeView}
use Rattle.mt_descent.proofs.Ways.{kept_moved_on}
use Rattle.mt_descent.proofs.phases.confirm.confirm.Goals as goal

pub returns-else-same_but_lock-clause-kept : goal.returns-else-same_but_lock-clause-kept
returns-else-same_but_lock-clause-kept c past row kept =
    let stable = subst (λ (n : NodeView). IsStable n.version) c.node-node.ensures c.in_default.ensures.none in
    rw (c.move_on.ensures, c.node-node.ensures)
    (kept_moved_on c.args.arena.now past c.args.key.now row c.args.walk.now c.facts.ensures.arena kept.at_border stable)
