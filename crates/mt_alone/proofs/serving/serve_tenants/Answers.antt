use Rattle.std.proofs.Common.{subst}
use Rattle.mt_streams.specs.Failures.{Failed}
use Rattle.mt_session.specs.Endings.{Serves}
use Rattle.mt_alone.specs.{TenantMaps.MapsExchange, Callers.{maps_of}}
use Rattle.mt_alone.proofs.serving.serve_tenants.Goals as goal

pub returns-clause-serves : goal.returns-clause-serves
returns-clause-serves g c =
    let r = c.args.reader.now in
    let q = c.serve_alone-ended.new.reader in
    let w = c.args.writer.now in
    let z = c.serve_alone-ended.new.writer in
    subst (λ first. Serves MapsExchange (g.R.Source.remaining r) (g.R.Source.remaining q) (g.W.Sink.contents w) (g.W.Sink.contents z) (Failed (g.R.Source.failures r) (g.R.Source.failures q))
    (Failed (g.W.Sink.failures w) (g.W.Sink.failures z)) first (maps_of c.serve_alone-ended.new.alone) c.serve_alone-ended.result) c.in_ok-alone.ensures
    c.serve_alone-ended.ensures
