-- What is seen has the pairs that were let go.
use Rattle.std.proofs.Common.{ℕ, Option, Some, map, sym, subst}
use Rattle.std.specs.{Prelude.Vec, declared.alloc.Global.Global, declared.snapshot.Snapshot.Snapshot}
use Rattle.mt_rows.specs.declared.record.TenantPair.{TenantPair}
use Rattle.mt_checkpoint.specs.{Slots.HasRead, Windows.walk_from}
use Rattle.mt_checkpoint.proofs.reads.look_at.Goals as goal

pub returns-in-Some-clause-ok : goal.returns-in-Some-clause-ok
returns-in-Some-clause-ok g c =
    subst (λ (v : Vec (Snapshot TenantPair) Global).
    HasRead g.D.Disk.is_honest g.D.Disk.state g.D.Disk.failures c.args.disk.now c.read_slot.new.disk
    (Some (record { first = c.in-Some.first; last = c.in-Some.last; pairs = map (λ (p : Snapshot TenantPair). p.value) v.items })))
    (sym c.of.ensures)
    (subst (λ (x : Option (ℕ × ℕ)).
    HasRead g.D.Disk.is_honest g.D.Disk.state g.D.Disk.failures c.args.disk.now c.read_slot.new.disk (walk_from (map (λ (p : Snapshot TenantPair). p.value) c.read_slot.new.kept.items) x))
    c.in-Some.is c.in_ok-first.ensures.ok)
