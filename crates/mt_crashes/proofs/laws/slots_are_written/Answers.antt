-- Each writes the slot, and nothing else.
use Rattle.mt_crashes.proofs.SlotDisks.{begins, ends, rests}
use Rattle.mt_crashes.proofs.laws.slots_are_written.Goals as goal

pub returns-clause-begins : goal.returns-clause-begins
returns-clause-begins c s k may there serving = begins s k may there serving

pub returns-clause-ends : goal.returns-clause-ends
returns-clause-ends c s k may w there serving order made base = ends s k may there w serving order made base

pub returns-clause-rests : goal.returns-clause-rests
returns-clause-rests c s k may x there at = rests s k may there x at
