-- The records so far rise, up to the last one's stamp.
use Rattle.mt_log_tests.proofs.Records.{AreUpTo}
use Rattle.mt_log_tests.proofs.tests.slots.batch_of.Given as goal

abbrev pub invariant-loop-change : goal.invariant-loop-change
invariant-loop-change l = AreUpTo l.last l.records.items
