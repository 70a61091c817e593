-- That places more keep the invariant, for `Inner::reserve`.
use Rattle.std.proofs.Common.{ap, subst}
use Rattle.mt_state.specs.Views.{shown}
use Rattle.mt_core.{specs.{States.core_of, Places.AddsPlaces}, proofs.{Reserving.{places_added, places_sound}, Tabling.with_table}}
use Rattle.mt_core.proofs.inner.Inner.reserve.Goals as goal

pub invariant_of-self : goal.invariant_of-self
invariant_of-self c = places_sound (core_of c.self.inside) c.reserve.new.self c.reserve.ensures.same c.self.invariant

pub returns-clause-same : goal.returns-clause-same
returns-clause-same c =
    subst (λ v. AddsPlaces v (shown (with_table (core_of c.self.inside) c.self.inside.answers c.reserve.new.self))) (ap shown c.self.view_is) (places_added (core_of c.self.inside) c.reserve.new.self c.reserve.ensures.same)
