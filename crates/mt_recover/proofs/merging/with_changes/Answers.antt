-- No change, one more, and all.
use Rattle.mt_recover.proofs.Merges.{none_made, one_made, before_first, all_made}
use Rattle.mt_recover.proofs.merging.with_changes.Goals as goal

pub loop-owner-init : goal.loop-owner-init
loop-owner-init c =
    let gives = c.into_iter-owner-iterator.ensures.into_iter_gives in
    none_made c.args.left.now.items c.args.changes.entries _ _ c.in_ok-listed.ensures.items gives.0 c.requires gives.5

pub make-requires-clause-before : goal.make-requires-clause-before
make-requires-clause-before c = before_first _ _ _ _ (c.in-Some.owner, c.in-Some.row) _ _ c.in-Some.ensures.steps c.loop-owner.invariant

pub loop-owner-preserved : goal.loop-owner-preserved
loop-owner-preserved c =
    let made = c.in_ok-make.ensures in
    one_made _ _ _ _ (c.in-Some.owner, c.in-Some.row) _ _ _ _ c.in-Some.ensures.steps c.loop-owner.invariant made.pairs made.ascend made.before

pub returns-clause-after : goal.returns-clause-after
returns-clause-after c = record { at = all_made _ _ _ _ _ c.in-None.ensures.steps.0 c.loop-owner.invariant }
