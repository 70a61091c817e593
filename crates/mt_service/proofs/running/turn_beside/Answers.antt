-- What is left of the turner after its work, or if there was none.
use Rattle.mt_service.specs.Turners.{turner_of}
use Rattle.mt_service.proofs.TurnerLemmas.{leaves, no_work}
use Rattle.mt_service.proofs.running.turn_beside.Goals as goal

pub returns-in-Some : goal.returns-in-Some
returns-in-Some g c =
    let end = c.into_parts.ensures in
    leaves g.E.Desk.does g.D.Disk.is_honest g.D.Disk.state g.D.Disk.failures g.S.Logs.does g.S.Logs.logs g.G.Digests.does c.args.turner.tenants.now c.run.new.self (turner_of c.args.turner) c.into_parts.result.0 c.into_parts.result.1 c.into_parts.result.2 end.pass end.desk end.logs c.run.ensures

pub returns-in-None : goal.returns-in-None
returns-in-None g c =
    let end = c.into_parts-in-None.ensures in
    leaves g.E.Desk.does g.D.Disk.is_honest g.D.Disk.state g.D.Disk.failures g.S.Logs.does g.S.Logs.logs g.G.Digests.does c.args.turner.tenants.now c.args.turner (turner_of c.args.turner) c.into_parts-in-None.result.0 c.into_parts-in-None.result.1 c.into_parts-in-None.result.2 end.pass end.desk end.logs
    (no_work g.E.Desk.does g.D.Disk.is_honest g.D.Disk.state g.D.Disk.failures g.S.Logs.does g.S.Logs.logs g.G.Digests.does c.args.turner.tenants.now (turner_of c.args.turner))
