-- Turns of a store's logs.
use Rattle.std.specs.Prelude.{◌≡◌, ℕ, List, [], ◌∷◌, Result, Ok, Err}
use Rattle.mt_rows.specs.declared.refusal.Refusal.{Refusal}
use Rattle.mt_store_logs.specs.declared.{flushing.Flushed.Flushed, standing.Generations.Generations}

-- What one log had done to it.
-- It was opened again, if it was closed, and given what its worker had changed. It told the step that it reaches, or why it was not.
-- The same was done to it; and if its last log was of an earlier generation than this one, its next log was begun where it ends. It told that step, or why it was not.
-- Its older log was given up, or it told why not.
-- It told of which generations it has logs, or why not.
pub data Turn : Type 0 where
  BroughtUp : ℕ → Result ℕ Refusal → Turn
  BegunNext : ℕ → ℕ → Result ℕ Refusal → Turn
  GivenUp : ℕ → Result (Unit {0}) Refusal → Turn
  Told : ℕ → Result Generations Refusal → Turn

-- what a turn tells: the step up to which the log was flushed, or why it was not
abbrev pub mark_told : Result Flushed Refusal → Result ℕ Refusal
mark_told (Ok flushed) = Ok flushed.mark
mark_told (Err refusal) = Err refusal

-- turns in their order lead from old to new
abbrev pub Chain : {S : Type 0} → (S → Turn → S → Type 0) → S → List Turn → S → Type 0
Chain does old [] new = new ≡ old
Chain {S} does old (turn ∷ turns) new = (mid : S) × does old turn mid × Chain does mid turns new
