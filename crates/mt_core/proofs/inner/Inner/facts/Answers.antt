-- What holds of every state, for `Inner::facts`.
use Rattle.std.proofs.Common.{ap}
use Rattle.mt_state.specs.Views.{shown}
use Rattle.mt_core.{specs.States.core_of, proofs.Righting.right_state}
use Rattle.mt_core.proofs.inner.Inner.facts.Goals as goal

pub returns : goal.returns
returns c = right_state (core_of c.self.inside) _ (ap shown c.self.view_is) c.self.invariant
