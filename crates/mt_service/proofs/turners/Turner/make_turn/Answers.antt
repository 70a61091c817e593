-- A turn of all logs was made, or stopped.
use Rattle.std.proofs.Common.{ℕ, Ok, ap, ◌∙◌, arith, subst}
use Rattle.mt_stored.specs.{Checkpoints.scanner, WholeTurns.parts}
use Rattle.mt_service.{specs.Turning.{TellsReady, turning}, proofs.{TenantNumbers.some_number, TurnerLemmas.{comes, told}}}
use Rattle.mt_service.proofs.turners.Turner.make_turn.Goals as goal

pub write_turn-told-requires : goal.write_turn-told-requires
write_turn-told-requires g c =
    let some = some_number c.args.self.now.tenants.now c.in-Ok.tenants.items c.in-Ok.ensures.1 c.requires.some in
    record { some = omega (arith, some, c.in-Ok.tenants.ok.0) }

pub returns-in-Ok-clause-turn : goal.returns-in-Ok-clause-turn
returns-in-Ok-clause-turn g c =
    let old = c.args.self.now in
    let desk = scanner c.write_turn-told.new.desk c.write_turn-told.new.pass.seen c.write_turn-told.new.pass.share.amount in
    let logs = c.write_turn-told.new.logs in
    let mid = c.get_ready-ready.new.logs in
    let ready =
    subst (λ (n : ℕ). TellsReady g.S.Logs.does g.S.Logs.logs old.tenants.now c.args.due.settled n old.logs (Ok c.in-Ok.tenants) mid) c.owed.ensures c.in-Ok.ensures in
    told g.D.Desk.does g.K.Disk.is_honest g.K.Disk.state g.K.Disk.failures g.S.Logs.does g.S.Logs.logs g.G.Digests.does old.tenants.now c.args.due
    (turning old.logs (scanner old.desk old.pass.seen old.pass.share.amount) old.pass.worker old.digests old.settled old.next)
    (turning logs desk c.write_turn-told.new.pass.worker c.write_turn-told.new.digests old.settled c.next_after-self.result) c.write_turn-told.result
    (record {
      mid = mid;
      numbers = c.in-Ok.tenants.items;
      number = ready.0.0;
      owed = ready.0.1;
      settles = ready.0.2;
      rising = ready.1;
      came =
          comes g.D.Desk.does g.K.Disk.is_honest g.K.Disk.state g.K.Disk.failures g.S.Logs.does g.S.Logs.logs g.G.Digests.does old.tenants.now old.pass.worker (g.S.Logs.logs mid) old.next c.in-Ok.tenants.items c.write_turn-told.result
          (λ left. parts logs desk left c.write_turn-told.new.digests) (parts mid (scanner old.desk old.pass.seen old.pass.share.amount) c.args.due.slots old.digests) c.write_turn-told.ensures.ok c.write_turn-told.ensures.err;
      same =
          ap (λ w. turning logs desk w c.write_turn-told.new.digests old.settled c.next_after-self.result) c.write_turn-told.ensures.worker
          ∙ ap (turning logs desk old.pass.worker c.write_turn-told.new.digests old.settled) c.next_after-self.ensures;
    })
