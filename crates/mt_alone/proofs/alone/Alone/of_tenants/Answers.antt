use Rattle.std.proofs.Common.{None, ap, ◌∙◌}
use Rattle.mt_alone.{specs.Callers.{maps_of, maps_in}, proofs.Callers.maps_new}
use Rattle.mt_alone.proofs.alone.Alone.of_tenants.Goals as goal

pub returns : goal.returns
returns c = ap maps_of c.new-2.ensures ∙ ap (λ v. maps_in v None) c.in_ok-new.ensures ∙ maps_new c.args.tenants
