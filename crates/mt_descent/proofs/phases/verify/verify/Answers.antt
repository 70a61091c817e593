-- What is kept at the child of an interior node that stands.
use Rattle.std.proofs.Common.{ap, subst, ◌∙◌}
use Rattle.mt_version.specs.{Parts.Parts, Changes.SameButLock}
use Rattle.mt_arena.specs.NodeView.{NodeView}
use Rattle.mt_descent.proofs.Ways.{kept_verified}
use Rattle.mt_descent.proofs.phases.verify.verify.Goals as goal

pub returns-then-same_but_lock-clause-kept : goal.returns-then-same_but_lock-clause-kept
returns-then-same_but_lock-clause-kept c past row =
    let is = c.version-now.ensures ∙ ap (λ (n : NodeView). n.version) c.node-node.ensures in
    rw c.onto.ensures
    (kept_verified c.args.arena.now past c.args.key.now row c.args.walk.now c.facts.ensures.arena c.requires.kept (subst (λ (p : Parts). SameButLock p c.args.walk.now.place.seen) is (c.same_but_lock.ensures.0 c.if-same_but_lock.true)))
