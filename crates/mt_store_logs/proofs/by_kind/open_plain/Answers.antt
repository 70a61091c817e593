-- A plain file is that of generation 0.
use Rattle.mt_store_logs.proofs.Reopening.{opened_plain}
use Rattle.mt_store_logs.proofs.by_kind.open_plain.Goals as goal

pub returns-in-Ok-clause-ok : goal.returns-in-Ok-clause-ok
returns-in-Ok-clause-ok g c =
    opened_plain g.D.Disk.is_honest g.D.Disk.state g.D.Disk.failures c.args.generation c.args.disk c.open_disk.new.slot c.in-Ok._front c.requires c.in-Ok.ensures.ok
