-- The log is open, and then the batch that waited is in it or waits.
use Rattle.std.proofs.lemmas.Result.{on_ok_weaker, IfErr-weaker}
use Rattle.mt_store_logs.proofs.Reopening.{opens_again, opens_but_keeps}
use Rattle.mt_store_logs.proofs.last_log.LastLog.reopen_closed.Goals as goal

pub returns-clause-ok : goal.returns-clause-ok
returns-clause-ok g c =
    on_ok_weaker c.append_kept.result
    (λ a. opens_again g.D.Disk.is_honest g.D.Disk.state g.D.Disk.failures c.args.self.now.worker c.args.self.now.generation c.args.disk c.args.self.now.kept c.open_generation.new.slot c.append_kept.new.self c.in_ok-open_generation.ensures.ok a)
    c.append_kept.ensures.ok

pub returns-clause-err : goal.returns-clause-err
returns-clause-err g c =
    IfErr-weaker c.append_kept.result _ _
    (λ e f. opens_but_keeps g.D.Disk.is_honest g.D.Disk.state g.D.Disk.failures e c.args.self.now.worker c.args.self.now.generation c.args.disk c.args.self.now.kept c.open_generation.new.slot c.append_kept.new.self c.in_ok-open_generation.ensures.ok f)
    c.append_kept.ensures.err
