-- A period adds a state to the history, and is of the pass's own operation: for `Kept`, and for clerks.
use Rattle.std.proofs.Common.{◌≡◌, ℕ, ◌+◌, List, [], ◌∷◌, ◌++◌, Option, Some, None, refl, ap, ◌∙◌}
use mathlib.Core.List.{IsPrefix}
use Rattle.mt_operation.specs.declared.phase.Phase.{Phase}
use Rattle.mt_state.specs.{declared.moves.Move.Move, Views.{StateView, Shown}}
use Rattle.mt_core.specs.{Admitted.OpeningView, Rights.IsRightState}
use Rattle.mt_history.specs.{Legal.EndsWith, Views.MarkView}
use Rattle.mt_book.specs.{declared.desks.Admitted.Admitted, declared.desks.Taken.Taken, declared.gates.Turned.Turned, Periods.{Period, admission_deed, step_deed, taken_deed}}
use Rattle.mt_book.specs.{Births.birth_at, Does.DoesState, Serves.{Serves, IsOwn, clerk_of, birth_by}}
use Rattle.mt_book.specs.declared.desks.Admitted.TheVariants as admitted
use Rattle.mt_book.specs.declared.desks.Taken.TheVariants as taken

pub served : (p : Period) (old new : MarkView StateView) (tip log : List StateView) (was to now : StateView) (birth after : ℕ) → EndsWith tip was → IsRightState was → DoesState was p to
    → now ≡ to → IsPrefix old.log tip → log ≡ tip ++ now ∷ [] → new.log ≡ log → new.made ≡ old.made + 1 → IsOwn was.table birth p.deed → after ≡ birth_by p.steps birth p.deed
    → Serves (clerk_of old birth) p (clerk_of new after)
served p old new tip log was to now birth after ends right does is before adds seen made own later = record {
  adds = record {
    before = tip;
    from = was;
    to = to;
    since = before;
    ends = ends;
    log = seen ∙ adds ∙ ap (λ w. tip ++ w ∷ []) is;
    made = made;
    right = right;
    happens = does;
  };
  own = own;
  birth = later;
}

module _ (table : Shown) (birth id : ℕ) where
  -- an admission is of nobody's operation
  pub own_admission : (opening : OpeningView) (logs : ℕ) (told : Admitted) → IsOwn table birth (admission_deed opening logs told)
  own_admission opening logs (admitted.Early back) = tt
  own_admission opening logs (admitted.Begun ticket phase) = tt
  own_admission opening logs (admitted.Refused refusal) = tt

  -- a step or a take is of this one, and begins none
  module _ (own : birth_at table id ≡ Some birth) where
    pub own_step : (turned : Turned) (made : Option Move) (next : Option Phase) → IsOwn table birth (step_deed id turned made next)
    own_step turned None next = tt
    own_step turned (Some made) next = own

    pub own_take : (room : ℕ) (told : Taken) → IsOwn table birth (taken_deed id room told)
    own_take room (taken.Early back) = tt
    own_take room (taken.Open back) = tt
    own_take room (taken.Answered answer) = own

  pub birth_stepped : (steps : ℕ) (turned : Turned) (made : Option Move) (next : Option Phase) → birth ≡ birth_by steps birth (step_deed id turned made next)
  birth_stepped steps turned None next = refl
  birth_stepped steps turned (Some made) next = refl

  pub birth_taken : (steps room : ℕ) (told : Taken) → birth ≡ birth_by steps birth (taken_deed id room told)
  birth_taken steps room (taken.Early back) = refl
  birth_taken steps room (taken.Open back) = refl
  birth_taken steps room (taken.Answered answer) = refl
