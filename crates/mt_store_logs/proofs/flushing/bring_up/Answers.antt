-- The log is open, and then it was flushed or not.
use Rattle.std.proofs.Common.{inr}
use Rattle.std.proofs.lemmas.Result.{IfOk-weaker, IfErr-weaker}
use Rattle.mt_store_logs.proofs.flushing.bring_up.Goals as goal

pub returns-in-Ok-clause-ok : goal.returns-in-Ok-clause-ok
returns-in-Ok-clause-ok g c =
    IfOk-weaker c.flush.result _ _ (λ flushed f. record { mid = c.reopen.new.self; opens = c.in-Ok.ensures.ok; flushes = f }) c.flush.ensures.ok

pub returns-in-Ok-clause-err : goal.returns-in-Ok-clause-err
returns-in-Ok-clause-err g c =
    IfErr-weaker c.flush.result _ _ (λ e f. inr (record { mid = c.reopen.new.self; opens = c.in-Ok.ensures.ok; fails = f })) c.flush.ensures.err
