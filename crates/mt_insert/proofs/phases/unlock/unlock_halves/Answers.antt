-- The next halves may be given back, and then the first ones are one more.
use Rattle.mt_insert.proofs.Unlocking.{next_may, returned_more}
use Rattle.mt_insert.proofs.phases.unlock.unlock_halves.Goals as goal

pub unlock_both-requires-clause-kept : goal.unlock_both-requires-clause-kept
unlock_both-requires-clause-kept c =
    let items = c.as_slice-halves-items.ensures.value in
    let n = c.loop-halves.halves-index in
    rw items (n, next_may c.args.operation c.args.arena.now c.args.splits.now.halves.items c.requires.kept.halves c.loop-halves.arena n (rw items at c.loop-halves-test.true) c.loop-halves.invariant)

pub loop-halves-preserved : goal.loop-halves-preserved
loop-halves-preserved c =
    let items = c.as_slice-halves-items.ensures.value in
    let n = c.loop-halves.halves-index in
    returned_more c.args.operation c.args.arena.now c.args.splits.now.halves.items c.requires.kept.halves c.loop-halves.arena n (rw items at c.loop-halves-test.true) c.loop-halves.invariant c.unlock_both.new.arena c.facts.ensures.arena
    (rw items at c.unlock_both.ensures.is) c.unlock_both.ensures.step c.unlock_both.ensures.contents
