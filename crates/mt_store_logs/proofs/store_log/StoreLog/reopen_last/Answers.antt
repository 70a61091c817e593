-- The last log is opened again, when it was taken out and is put back.
use Rattle.std.proofs.lemmas.Result.{on_ok_weaker}
use Rattle.mt_store_logs.specs.Waits.{Reopens}
use Rattle.mt_store_logs.proofs.Lasts.{taken_and_put}
use Rattle.mt_store_logs.proofs.store_log.StoreLog.reopen_last.Goals as goal

pub returns-clause-ok : goal.returns-clause-ok
returns-clause-ok g c =
    on_ok_weaker c.reopen-told.result
    (λ r. taken_and_put (Reopens g.D.Disk.is_honest g.D.Disk.state g.D.Disk.failures) c.args.self.now c.take_last-last.new.self c.put_last.new.self c.take_last-last.result c.reopen-told.new.self
    c.take_last-last.ensures.last c.take_last-last.ensures.rest c.put_last.ensures c.reopen-told.ensures.worker c.reopen-told.ensures.generation r)
    c.reopen-told.ensures.ok
