-- The slot that was named is read, and the other one stays.
use Rattle.std.proofs.Common.{refl}
use Rattle.mt_slots.specs.declared.slot.Slot.TheVariants.{First, Second}
use Rattle.mt_slots.proofs.Placing.{loaded_in, not_loaded_in}
use Rattle.mt_slots.proofs.store_slots.StoreSlots.load.Goals as goal

pub returns-in-First-clause-ok : goal.returns-in-First-clause-ok
returns-in-First-clause-ok g c =
    loaded_in g.D.Disk.is_honest g.D.Disk.state g.D.Disk.failures c.args.slot First c.in-First.is c.args.self.now (record c.args.self.now { first = c.load_slot.new.disk }) c.load_slot.result refl refl refl c.load_slot.ensures.ok

pub returns-in-First-clause-err : goal.returns-in-First-clause-err
returns-in-First-clause-err g c =
    not_loaded_in g.D.Disk.is_honest g.D.Disk.state g.D.Disk.failures c.args.slot First c.in-First.is c.args.self.now (record c.args.self.now { first = c.load_slot.new.disk }) c.load_slot.result refl refl refl c.load_slot.ensures.err

pub returns-in-Second-clause-ok : goal.returns-in-Second-clause-ok
returns-in-Second-clause-ok g c =
    loaded_in g.D.Disk.is_honest g.D.Disk.state g.D.Disk.failures c.args.slot Second c.in-Second.is c.args.self.now (record c.args.self.now { second = c.load_slot-in-Second.new.disk }) c.load_slot-in-Second.result refl refl refl c.load_slot-in-Second.ensures.ok

pub returns-in-Second-clause-err : goal.returns-in-Second-clause-err
returns-in-Second-clause-err g c =
    not_loaded_in g.D.Disk.is_honest g.D.Disk.state g.D.Disk.failures c.args.slot Second c.in-Second.is c.args.self.now (record c.args.self.now { second = c.load_slot-in-Second.new.disk }) c.load_slot-in-Second.result refl refl refl c.load_slot-in-Second.ensures.err
