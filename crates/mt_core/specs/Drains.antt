-- What a worker's log is given.
use Rattle.std.specs.{Prelude.{◌≡◌, ℕ, ◌≤◌, List, slice_index_or, slice_set}, List.All}
use Rattle.mt_rows.specs.declared.record.Batch.{Batch}
use Rattle.mt_drains.specs.Drains.{IsNextBatch}
use Rattle.mt_state.specs.Views.{StateView}

-- the step up to which a worker's log was given its changes
abbrev pub given_upto : StateView → ℕ → ℕ
given_upto v worker = slice_index_or v.logs worker 0

-- The log is given the next batch of its worker's changes: all that were placed since it was last given any, or the first 4,096 of them. Nothing else has
-- changed. The tape goes back to where it was last given any, so none is missing.
pub record Drains (old new : StateView) (worker : ℕ) (batch : Batch) : Type 0 where
  pub next : IsNextBatch worker (given_upto old worker) old.steps old.tape.entries batch
  pub stands : new ≡ record old { logs = slice_set old.logs worker batch.to }

-- the least of some numbers and a bound
pub record IsLeastOf (numbers : List ℕ) (bound least : ℕ) : Type 0 where
  pub within : least ≤ bound
  pub each : All (λ m. least ≤ m) numbers
  pub greatest : (n : ℕ) → n ≤ bound → All (λ m. n ≤ m) numbers → n ≤ least
