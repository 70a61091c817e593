-- Pages were added so far.
use Rattle.std.specs.Prelude.{◌≡◌, List}
use Rattle.mt_rows.specs.declared.record.TenantPair.{TenantPair}
use Rattle.mt_stored.specs.Checkpoints.{AddsPages, scanner}
use Rattle.mt_stored.proofs.checkpoints.add_pages.Given as goal

abbrev pub invariant-loop : goal.invariant-loop
invariant-loop g l =
    (goal.iterator-loop g).can_next l.iterator' × (goal.iterator-loop g).is_finite l.iterator'
    × (l.pass.worker ≡ l.fn.pass.worker)
    × ((pairs : List TenantPair) × AddsPages g.D.Desk.does l.fn.pass.worker g.K.Disk.is_honest g.K.Disk.state g.K.Disk.failures (scanner l.fn.desk l.fn.pass.seen l.fn.pass.share.amount) l.fn.walk l.fn.writing pairs
    (scanner l.desk l.pass.seen l.pass.share.amount) l.walk l.writing)
