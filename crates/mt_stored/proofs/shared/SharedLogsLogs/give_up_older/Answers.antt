-- What was given up is the older log of the one that is locked. Its refusal is told as the older file tells it.
use Rattle.std.proofs.Common.{ap, ◌∙◌, Bool}
use Rattle.mt_store_logs.specs.{declared.store_log.StoreLog.StoreLog, Places.worker_of, FailedFiles.told_by}
use Rattle.mt_stored.proofs.SharedTurns.{given_up}
use Rattle.mt_stored.proofs.shared.SharedLogsLogs.give_up_older.Goals as goal

pub returns-clause-does : goal.returns-clause-does
returns-clause-does g c =
    given_up g.D.Disk.is_honest g.D.Disk.state g.D.Disk.failures g.D.Disk.was_refused c.args.log c.deref_mut-own.result.now c.give_up_older-told.new.self
    (ap (λ (l : StoreLog g.row.D.Denot). worker_of l) c.deref_mut-own.ensures.value ∙ c.in_ok-guard.ensures.own)
    c.args.self.now.book.clerk.mark c.give_up_older-told.result c.tell.result
    (c.tell.ensures ∙ ap (λ (b : Bool). told_by b c.give_up_older-told.result) c.older_file.ensures.refused) c.give_up_older-told.ensures.ok c.give_up_older-told.ensures.err
