-- The gate stays closed.
use Rattle.std.proofs.Common.{IsTrue, sym, subst}
use Rattle.mt_disk.proofs.CrashLaws.{after_sync_tried}
use Rattle.mt_checkpoint.specs.Checkpoints.{IsClosed}
use Rattle.mt_checkpoint.proofs.bounded.write_bounded.Goals as goal

pub returns-in_err-sync-clause-leaves : goal.returns-in_err-sync-clause-leaves
returns-in_err-sync-clause-leaves g c honest text behind end =
    let still = subst IsTrue (sym c.write_more.ensures.honest) honest in
    after_sync_tried IsClosed c.sync.result (g.D.Disk.state c.args.disk.now) (g.D.Disk.state c.write_more.new.disk) (g.D.Disk.state c.sync.new.self)
    (c.write_more.ensures.leaves honest text behind end) (c.sync.ensures.done still) (c.sync.ensures.failed still)

pub returns-clause-leaves : goal.returns-clause-leaves
returns-clause-leaves g c honest text behind end =
    let still = subst IsTrue (sym c.write_more.ensures.honest) honest in
    after_sync_tried IsClosed c.sync.result (g.D.Disk.state c.args.disk.now) (g.D.Disk.state c.write_more.new.disk) (g.D.Disk.state c.sync.new.self)
    (c.write_more.ensures.leaves honest text behind end) (c.sync.ensures.done still) (c.sync.ensures.failed still)
