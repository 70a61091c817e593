-- The disk that was cut, or wasn't, stands in its slot.
use Rattle.std.proofs.Common.{Ok}
use Rattle.mt_slots.proofs.Placing.{gave_up_in}
use Rattle.mt_slots.proofs.checkpointing.Checkpointing.give_up.Goals as goal

pub returns-in-Ok : goal.returns-in-Ok
returns-in-Ok g c =
    gave_up_in g.D.Disk.is_honest g.D.Disk.state g.D.Disk.failures c.args.self c.with.result c.slot-slot.result c.in-Ok.disk (Ok tt)
    c.slot-slot.ensures c.with.ensures c.in-Ok.ensures.ok

pub returns-in-Err : goal.returns-in-Err
returns-in-Err g c =
    gave_up_in g.D.Disk.is_honest g.D.Disk.state g.D.Disk.failures c.args.self c.with-in-Err.result c.slot-slot.result c.in-Err.disk _
    c.slot-slot.ensures c.with-in-Err.ensures c.in-Err.ensures.err
