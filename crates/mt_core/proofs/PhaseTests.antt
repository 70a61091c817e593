-- What is told of a phase by a comparison, and by what kind it is: for the steps of an operation that holds nothing.
use denote.Enum.Bare.{sameb, same_true}
use Rattle.mt_operation.specs.{contracts.phase.Phase.the_type, declared.phase.Phase.Phase, declared.phase.Phase.TheVariants.{Confirm, Done, Hop}}
use Rattle.mt_operation.specs.Phases.{is_done}
use Rattle.std.proofs.Common.{rules, ◌≡◌, ◌≢◌, ◌⊎◌, inl, inr, Bool, true, false, refl, sym, ap, ◌∙◌}
use Rattle.mt_state.{specs.{declared.moves.Move.TheVariants.Moved, Ways.IsOnWay}, proofs.Still.IsFree}
use Rattle.mt_core.specs.Nexts.{ending}

-- who holds nothing has a step left
pub free_unfinished : (p : Phase) → IsFree p → is_done p ≡ false
free_unfinished Done f = absurd f
free_unfinished _ f = refl

-- phases that a comparison finds to be the same, or not
pub confirm_if : (p : Phase) → true ≡ sameb the_type p Confirm → p ≡ Confirm
confirm_if p e = same_true the_type (search rules) _ _ (sym e)

pub confirm_unless : (p : Phase) → false ≡ sameb the_type p Confirm → p ≢ Confirm
confirm_unless p e is = absurd (let no : false ≡ true = e ∙ ap (λ (q : Phase). sameb the_type q Confirm) is in cc)

pub done_if : (p : Phase) → true ≡ sameb the_type p Done → p ≡ Done
done_if p e = same_true the_type (search rules) _ _ (sym e)

pub done_unless : (p : Phase) → false ≡ sameb the_type p Done → p ≢ Done
done_unless p e is = absurd (let no : false ≡ true = e ∙ ap (λ (q : Phase). sameb the_type q Done) is in cc)

pub confirm_or : (p : Phase) → (p ≡ Confirm) ⊎ (p ≢ Confirm)
confirm_or p = by (sameb the_type p Confirm) refl
  where
    by : (b : Bool) → b ≡ sameb the_type p Confirm → (p ≡ Confirm) ⊎ (p ≢ Confirm)
    by true e = inl (confirm_if p e)
    by false e = inr (confirm_unless p e)

pub done_or : (p : Phase) → (p ≡ Done) ⊎ (p ≢ Done)
done_or p = by (sameb the_type p Done) refl
  where
    by : (b : Bool) → b ≡ sameb the_type p Done → (p ≡ Done) ⊎ (p ≢ Done)
    by true e = inl (done_if p e)
    by false e = inr (done_unless p e)

pub hop_or : (p : Phase) → (p ≡ Hop) ⊎ (p ≢ Hop)
hop_or p = by (sameb the_type p Hop) refl
  where
    by : (b : Bool) → b ≡ sameb the_type p Hop → (p ≡ Hop) ⊎ (p ≢ Hop)
    by true e = inl (same_true the_type (search rules) _ _ (sym e))
    by false e = inr (λ is. let no : false ≡ true = e ∙ ap (λ (q : Phase). sameb the_type q Hop) is in cc)

-- a step that leads to another phase than the last moves the operation
pub other_moves : (p : Phase) → p ≢ Done → ending p ≡ Moved
other_moves Done other = absurd (other refl)
other_moves _ other = refl

pub way_moves : (p : Phase) → IsOnWay p → ending p ≡ Moved
way_moves Done on = absurd on
way_moves _ on = refl
