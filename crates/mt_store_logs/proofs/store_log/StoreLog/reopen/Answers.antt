-- The next log was looked for, and then the last one was opened again or not.
use Rattle.std.proofs.Common.{inr}
use Rattle.std.proofs.lemmas.Result.{on_ok_weaker, IfErr-weaker}
use Rattle.mt_store_logs.proofs.store_log.StoreLog.reopen.Goals as goal

pub returns-clause-ok : goal.returns-clause-ok
returns-clause-ok g c =
    on_ok_weaker c.reopen_last.result (λ r. record { mid = c.look_for_next.new.self; looks = c.in_ok-look_for_next.ensures.ok; reopens = r }) c.reopen_last.ensures.ok

pub returns-clause-err : goal.returns-clause-err
returns-clause-err g c =
    IfErr-weaker c.reopen_last.result _ _ (λ e f. inr (record { mid = c.look_for_next.new.self; looks = c.in_ok-look_for_next.ensures.ok; fails = f })) c.reopen_last.ensures.err
