-- What is kept at the next border node, and where there is none.
use Rattle.std.proofs.Common.{subst}
use Rattle.mt_version.specs.Changes.{IsStable}
use Rattle.mt_arena.specs.NodeView.{NodeView}
use Rattle.mt_descent.proofs.Ways.{kept_last, kept_forwarded}
use Rattle.mt_descent.proofs.phases.forward.forward.Goals as goal

pub returns-in_default-clause-kept : goal.returns-in_default-clause-kept
returns-in_default-clause-kept c past row = rw c.arrival-walk.ensures
    (kept_last c.args.arena.now past c.args.key.now row c.args.walk.now c.requires.kept c.in_default.is)

pub returns-clause-kept : goal.returns-clause-kept
returns-clause-kept c past row =
    let stable = subst (λ (n : NodeView). IsStable n.version) c.node-node.ensures c.in_default-blocker.ensures.none in
    rw (c.go_to.ensures, c.slice-slice.ensures, c.node-node.ensures)
    (kept_forwarded c.args.arena.now past c.args.key.now row c.args.walk.now c.in-Some.next c.facts.ensures.arena c.requires.kept c.in-Some.is stable)
