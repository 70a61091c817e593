-- A log was read, or not.
use Rattle.std.proofs.Common.{refl}
use Rattle.mt_store_logs.specs.declared.fault.StoreRefusal.TheVariants.{Logs}
use Rattle.mt_store_logs.proofs.Rereading.{follows_well, follows_fault, stay_same, at_fault}
use Rattle.mt_store_logs.proofs.second_reading.SecondReadingSource.next.Goals as goal

pub returns-in-Ok-clause-follows : goal.returns-in-Ok-clause-follows
returns-in-Ok-clause-follows g c = λ start before.
    follows_well g.D.Disk.is_honest g.D.Disk.state g.D.Disk.failures start c.args.self.now _ refl refl c.read_next.ensures.plain
    (stay_same g.D.Disk.is_honest g.D.Disk.state g.D.Disk.failures c.args.self.now.slots.now) before refl c.in-Ok.ensures.read (λ first found reads. reads)

pub returns-in-Err-clause-follows : goal.returns-in-Err-clause-follows
returns-in-Err-clause-follows g c = λ start before.
    follows_fault g.D.Disk.is_honest g.D.Disk.state g.D.Disk.failures start c.args.self.now _ refl refl c.read_next.ensures.plain
    (stay_same g.D.Disk.is_honest g.D.Disk.state g.D.Disk.failures c.args.self.now.slots.now) before (Logs c.at.result) refl
    (at_fault c.args.log c.refusal_of-refusal.result c.at.result c.at.ensures c.refusal_of-refusal.ensures) c.in-Err.ensures.read
