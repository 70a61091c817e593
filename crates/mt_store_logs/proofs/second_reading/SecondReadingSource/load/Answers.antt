-- A slot was loaded, or not.
use Rattle.std.proofs.Common.{refl, sym, true, false}
use Rattle.mt_store_logs.specs.declared.fault.StoreRefusal.TheVariants.{Slot}
use Rattle.mt_store_logs.proofs.Rereading.{follows_well, follows_fault, logs_same, keep_plain_same, loaded_stay, not_loaded_stay, read_again, gives_held}
use Rattle.mt_store_logs.proofs.second_reading.SecondReadingSource.load.Goals as goal

pub returns-in-Ok-clause-follows : goal.returns-in-Ok-clause-follows
returns-in-Ok-clause-follows g c = λ start before.
    let is_honest = g.D.Disk.is_honest in
    let state = g.D.Disk.state in
    let failures = g.D.Disk.failures in
    let was = c.args.self.now in
    follows_well is_honest state failures start was _ refl refl (λ numbered. (numbered, keep_plain_same was.logs.now))
    (loaded_stay is_honest state failures c.slot_of.result was.slots.now c.load.new.self c.in-Ok.checkpoint c.in-Ok.ensures.ok) before refl
    (logs_same is_honest state failures true was.logs.now)
    (read_again is_honest state failures c.slot_of.result was.slots.now c.load.new.self c.in-Ok.checkpoint c.in-Ok.ensures.ok)

pub returns-in-Ok-clause-given : goal.returns-in-Ok-clause-given
returns-in-Ok-clause-given g c =
    gives_held g.D.Disk.is_honest g.D.Disk.state g.D.Disk.failures c.slot_of.result c.args.self.now.slots.now c.load.new.self c.in-Ok.checkpoint c.args.slot (sym c.slot_of.ensures)
    c.in-Ok.ensures.ok

pub returns-in-Err-clause-follows : goal.returns-in-Err-clause-follows
returns-in-Err-clause-follows g c = λ start before.
    let is_honest = g.D.Disk.is_honest in
    let state = g.D.Disk.state in
    let failures = g.D.Disk.failures in
    let was = c.args.self.now in
    follows_fault is_honest state failures start was _ refl refl (λ numbered. (numbered, keep_plain_same was.logs.now))
    (not_loaded_stay is_honest state failures c.slot_of.result was.slots.now c.load.new.self c.in-Err.fault c.in-Err.ensures.err) before (Slot c.in-Err.fault) refl tt
    (logs_same is_honest state failures false was.logs.now)
