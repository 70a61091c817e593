-- The passes of sessions that end are as they were.
use Rattle.mt_stored_tests.proofs.tests.power.play.Goals as goal

pub invariant_of-second : goal.invariant_of-second
invariant_of-second g c = record { one = c.loop-round.second.caller.pass.one; empty = c.loop-round.second.caller.pass.empty }

pub invariant_of-first : goal.invariant_of-first
invariant_of-first g c = record { one = c.loop-round.first.caller.pass.one; empty = c.loop-round.first.caller.pass.empty }
