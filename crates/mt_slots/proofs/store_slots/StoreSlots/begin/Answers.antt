-- The disk on which none was begun stands in its slot.
use Rattle.mt_slots.proofs.Placing.{not_begun_in}
use Rattle.mt_slots.proofs.store_slots.StoreSlots.begin.Goals as goal

pub returns-in-Err-clause-err : goal.returns-in-Err-clause-err
returns-in-Err-clause-err g c =
    not_begun_in g.D.Disk.is_honest g.D.Disk.state g.D.Disk.failures c.args.self c.with.result c.next_slot-slot.result c.parted-disk.result.0 c.in-Err.disk c.parted-disk.result.1
    c.next_slot-slot.ensures c.parted-disk.ensures.this c.parted-disk.ensures.other c.with.ensures c.in-Err.ensures.err
