-- The log is open again by its ends, and then the batch that waited is in it or waits.
use Rattle.std.proofs.{Common.inr, lemmas.Result.{on_ok_weaker, IfErr-weaker}}
use Rattle.mt_store_logs.proofs.last_log.LastLog.reopen_failed.Goals as goal

pub returns-in-Ok-clause-ok : goal.returns-in-Ok-clause-ok
returns-in-Ok-clause-ok g c =
    on_ok_weaker c.append_kept.result (λ a. record { log = c.in-Ok.file; opened = c.in-Ok.ensures.ok; appends = a }) c.append_kept.ensures.ok

pub returns-in-Ok-clause-err : goal.returns-in-Ok-clause-err
returns-in-Ok-clause-err g c =
    IfErr-weaker c.append_kept.result _ _ (λ e f. inr (record { log = c.in-Ok.file; opened = c.in-Ok.ensures.ok; fails = f })) c.append_kept.ensures.err
