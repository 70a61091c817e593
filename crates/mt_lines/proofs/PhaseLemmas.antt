-- The search for a phase by its name: for `phase_in`.
use Rattle.std.proofs.Common.{◌≡◌, ℕ, cond, List, [], ◌∷◌, Option, Some, None, refl, ap}
use Rattle.std.specs.{List.find, Option.ok_or}
use Rattle.mt_operation.specs.{declared.phase.Phase.Phase, Phases.name_of}
use Rattle.mt_lines.specs.{declared.fault.LineFault.TheVariants.BadLine, Words.{Means, is_text}, Line.phase_in}

-- the first phase that passes the test is that of this name
pub first_named : (word : List ℕ) (phases : List Phase) → find (λ (phase : Phase). is_text word (name_of phase)) phases ≡ phase_in phases word
first_named word [] = refl
first_named word (phase ∷ phases) = ap (λ (later : Option Phase). cond (is_text word (name_of phase)) (Some phase) later) (first_named word phases)

-- where there is none, the line is bad
pub means_found : (found : Option Phase) → Means (λ (phase : Phase). phase) (ok_or found BadLine) found
means_found None = refl
means_found (Some phase) = refl
