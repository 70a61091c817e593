-- The passes of a session and of the turner that end are as they were.
use Rattle.mt_stored_tests.proofs.tests.turns.play.Goals as goal

pub invariant_of-first : goal.invariant_of-first
invariant_of-first g c = record { one = c.loop-round.first.caller.pass.one; empty = c.loop-round.first.caller.pass.empty }

pub invariant_of-turner : goal.invariant_of-turner
invariant_of-turner g c = record { one = c.loop-round.turner.pass.one; empty = c.loop-round.turner.pass.empty }
