-- A turn of a log behind its lock, over a book behind its lock. Which log stood there is not told. To which generation it went is, and what the turn added to the book's history.
use Rattle.std.specs.Prelude.{◌≡◌, ◌≢◌, ◌⊎◌, ℕ, ◌-◌, Bool, Result, Ok, Err, ◌==◌, if◌then◌else◌}
use Rattle.mt_rows.specs.{declared.record.Batch.Batch, declared.refusal.Refusal.Refusal, declared.refusal.Refusal.TheVariants.LogCount}
use Rattle.mt_disk.specs.Disk.{DiskState}
use Rattle.mt_state.specs.Views.{StateView}
use mathlib.Core.List.{IsPrefix}
use Rattle.mt_history.specs.{Legal.IsLegal, Views.MarkView}
use Rattle.mt_book.specs.{Happens.{Adds, Acted, Given, Leads}, Periods.look_period, declared.desks.Look.Look}
use Rattle.mt_store_logs.specs.{declared.store_log.StoreLog.StoreLog, Places.worker_of, LogTurns.{BringsUp, FailsToBringUp}, Turns.{GivesUpOlderLog, FailsToGiveUpOlderLog}, Standing.TellsOf}
use Rattle.mt_store_logs.specs.FailedFiles.{failed_generation, was_refused_at, told_as}
use Rattle.mt_settle.specs.Turns.{Turn, BroughtUp, BegunNext, GivenUp, Told}
use Rattle.mt_stored.specs.Begins.{BringsUpAndBegins, FailsToBringUpAndBegin}

-- what a clerk has seen of the book's history
abbrev pub Seen : Type 0
Seen = MarkView StateView

-- one clerk has then seen what both had, and no more of its own making
pub record LearnsSeen (old other new : Seen) : Type 0 where
  pub this : IsPrefix old.log new.log
  pub that : IsPrefix other.log new.log
  pub made : new.made ≡ old.made
  pub legal : IsLegal Leads new.log

-- a batch of this worker was given, and that was added to the history
abbrev pub gives_batch : Seen → Seen → ℕ → Batch → Type 0
gives_batch old new worker batch = Adds (Given worker batch) old new

-- a log of this worker became another one so
pub record Somewhere {D : Type 0} (Does : StoreLog D → StoreLog D → Type 0) (log : ℕ) : Type 0 where
  pub before : StoreLog D
  pub after : StoreLog D
  pub whose : worker_of before ≡ log
  pub does : Does before after

-- the book was looked at, and up to the steps that it showed a log of this worker became another one so
pub record UptoSteps {D : Type 0} (Does : ℕ → StoreLog D → StoreLog D → Seen → Seen → Type 0) (log : ℕ) (old new : Seen) : Type 0 where
  pub look : Look
  pub seen : Seen
  pub looked : Adds (Acted (look_period look)) old seen
  pub turned : Somewhere (λ before after. Does look.steps before after seen new) log

-- at the place stands a log of another worker, which has no turn
abbrev pub IsElsewhere : Type 0 → ℕ → Refusal → Type 0
IsElsewhere D log refusal = (refusal ≡ LogCount) × (there : StoreLog D) × (worker_of there ≢ log)

-- what is told of a log that was to go to a generation, and is at this one
abbrev pub gone_as : {F : Type 0} → ℕ → ℕ → Result F Refusal → Result F Refusal
gone_as at generation (Err refusal) = Err refusal
gone_as at generation (Ok flushed) = if at == generation then Ok flushed else Err LogCount

-- A call on a log was refused, and told so: by its refusal, or by Memory in place of Device if memory was refused to the disk of the file that failed. That is
-- the file of this generation.
pub record IsToldOf {D : Type 0} (was_refused : D → Bool) (Fails : Refusal → Type 0) (generation : ℕ) (left : StoreLog D) (told : Refusal) : Type 0 where
  pub refusal : Refusal
  pub fails : Fails refusal
  pub is : told ≡ told_as (was_refused_at was_refused generation left.log.files) refusal

module _ {D : Type 0} (is_honest : D → Bool) (state : D → DiskState) (failures : D → ℕ) (was_refused : D → Bool) where
  -- so of a log that was not brought up, or did not go to a generation; and of an older one that was not given up
  abbrev pub NotBroughtUp : Refusal → ℕ → StoreLog D → StoreLog D → Seen → Seen → Type 0
  NotBroughtUp told upto before after was is =
      IsToldOf was_refused (λ e. FailsToBringUp is_honest state failures gives_batch upto e before after was is) (failed_generation after) after told

  abbrev pub NotBegunNext : ℕ → Refusal → ℕ → StoreLog D → StoreLog D → Seen → Seen → Type 0
  NotBegunNext generation told upto before after was is =
      IsToldOf was_refused (λ e. FailsToBringUpAndBegin is_honest state failures gives_batch upto generation e before after was is) (failed_generation after) after told

  -- so of a log that is at this generation then, by what is said of how it went there
  abbrev pub GoesTo : ℕ → (ℕ → StoreLog D → StoreLog D → Seen → Seen → Type 0) → ℕ → StoreLog D → StoreLog D → Seen → Seen → Type 0
  GoesTo generation Does upto before after was is = Does upto before after was is × (after.log.generation ≡ generation)

  -- A log did not go to this generation: it was refused, or the log is at another one then.
  abbrev pub NotGoneTo : ℕ → Refusal → ℕ → StoreLog D → StoreLog D → Seen → Seen → Type 0
  NotGoneTo generation told upto before after was is =
      NotBegunNext generation told upto before after was is
      ⊎ ((told ≡ LogCount) × ((mark : ℕ) × BringsUpAndBegins is_honest state failures gives_batch upto generation mark before after was is) × (after.log.generation ≢ generation))

  abbrev pub NotGivenUp : Refusal → StoreLog D → StoreLog D → Type 0
  NotGivenUp told before after =
      IsToldOf was_refused (λ e. FailsToGiveUpOlderLog is_honest state failures e before after) (after.log.generation - 1) after told

  -- a log was brought up to the steps of the book; or it was, and is at a generation then; or its older log was given up; or it told of its generations
  abbrev pub DoesShared : Seen → Turn → Seen → Type 0
  DoesShared old (BroughtUp log (Ok mark)) new = UptoSteps (λ upto. BringsUp is_honest state failures gives_batch upto mark) log old new
  DoesShared old (BroughtUp log (Err refusal)) new =
      (IsElsewhere D log refusal × (new ≡ old)) ⊎ UptoSteps (NotBroughtUp refusal) log old new
  DoesShared old (BegunNext log generation (Ok mark)) new = UptoSteps (GoesTo generation (λ upto. BringsUpAndBegins is_honest state failures gives_batch upto generation mark)) log old new
  DoesShared old (BegunNext log generation (Err refusal)) new =
      (IsElsewhere D log refusal × (new ≡ old)) ⊎ UptoSteps (NotGoneTo generation refusal) log old new
  DoesShared old (GivenUp log (Ok _)) new = Somewhere (GivesUpOlderLog is_honest state failures) log × (new ≡ old)
  DoesShared old (GivenUp log (Err refusal)) new = (IsElsewhere D log refusal ⊎ Somewhere (NotGivenUp refusal) log) × (new ≡ old)
  DoesShared old (Told log (Ok told)) new = ((there : StoreLog D) × (worker_of there ≡ log) × TellsOf there told) × (new ≡ old)
  DoesShared old (Told log (Err refusal)) new = IsElsewhere D log refusal × (new ≡ old)
