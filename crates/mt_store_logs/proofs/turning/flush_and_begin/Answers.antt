-- The log was flushed, and the next one was not begun.
use Rattle.std.proofs.Common.{inr}
use Rattle.mt_store_logs.proofs.turning.flush_and_begin.Goals as goal

pub returns-in-Err-clause-err : goal.returns-in-Err-clause-err
returns-in-Err-clause-err g c = inr (record {
  mid = c.flush.new.log;
  mark = c.in_ok-flushed.flushed.mark;
  flushes = c.in_ok-flushed.ensures.ok;
  fails = c.in-Err.ensures.err;
})
