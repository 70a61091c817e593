-- The disk that was ended stands in its slot.
use Rattle.mt_slots.proofs.Placing.{ended_in}
use Rattle.mt_slots.proofs.checkpointing.Checkpointing.end.Goals as goal

pub returns-in-Ok-clause-ok : goal.returns-in-Ok-clause-ok
returns-in-Ok-clause-ok g c =
    ended_in g.D.Disk.is_honest g.D.Disk.state g.D.Disk.failures c.args.self c.args.last c.with.result c.slot-slot.result c.in-Ok.disk
    c.slot-slot.ensures c.with.ensures c.in-Ok.ensures.ok
