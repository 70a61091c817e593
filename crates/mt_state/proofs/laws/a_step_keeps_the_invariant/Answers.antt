use Rattle.std.proofs.Common.{refl}
use Rattle.mt_operation.specs.Phases.{is_done}
use Rattle.mt_state.{specs.Views.shown, proofs.{Moving.invariant_stays, Telling.gives}}
use Rattle.mt_state.proofs.laws.a_step_keeps_the_invariant.Goals as goal

pub returns-clause-invariant : goal.returns-clause-invariant
returns-clause-invariant c = invariant_stays

pub returns-clause-told : goal.returns-clause-told
returns-clause-told c = λ old new o before after h m t few. (gives (shown old) old new o before after refl h few m t (is_done after.walk.phase) refl).1
