use Rattle.mt_session.proofs.Along.{serves_along}
use Rattle.mt_alone.specs.{TenantMaps.MapsExchange, Callers.{maps_of, AloneExchange}}
use Rattle.mt_alone.proofs.serving.serve_alone.Goals as goal

pub returns : goal.returns
returns g c = serves_along AloneExchange MapsExchange maps_of (λ a. Unit {0}) (λ s e t x well. x.by_maps) (λ s e t x well. tt) _ _ _ _ _ _ _ _ _ c.serve.ensures tt
