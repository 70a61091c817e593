-- That one record more is taken in, for `batch_of`.
use Rattle.std.proofs.Common.{arith}
use Rattle.mt_log_tests.proofs.Records.{one_more}
use Rattle.mt_log_tests.proofs.tests.slots.batch_of.Goals as goal

pub loop-change-preserved : goal.loop-change-preserved
loop-change-preserved c =
    let more = one_more c.loop-change.last c.in_ok-record.record c.loop-change.records.items c.loop-change.invariant
    (omega (arith, c.if-change-last.false, c.in_ok-record.ensures.stamp)) c.in_ok-record.ensures.key in
    rw (c.in_ok-push.ensures.items) more
