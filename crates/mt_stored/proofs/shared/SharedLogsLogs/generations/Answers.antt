-- What is told is that of the log which is locked.
use Rattle.std.proofs.Common.{ap, ◌∙◌, refl}
use Rattle.mt_store_logs.specs.{declared.store_log.StoreLog.StoreLog, Places.worker_of}
use Rattle.mt_stored.proofs.shared.SharedLogsLogs.generations.Goals as goal

pub returns : goal.returns
returns g c = ((c.deref.result.now, ap (λ (l : StoreLog g.row.D.Denot). worker_of l) c.deref.ensures ∙ c.in_ok-lock_at.ensures.own, c.generations.ensures), refl)
