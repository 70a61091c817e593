-- A closed log that was read, and what then becomes of the batch that waits for it.
use Rattle.std.proofs.Common.{◌≡◌, ◌≤◌, ℕ, zero, suc, Bool, Option, Some, inr, arith}
use Rattle.mt_rows.specs.{declared.record.Batch.Batch, declared.refusal.Refusal.Refusal}
use Rattle.mt_disk.specs.Disk.{DiskState}
use Rattle.mt_log_generations.specs.Headers.{parity_of}
use Rattle.mt_log.specs.declared.batch.Front.{Front}
use Rattle.mt_log_files.specs.Slots.{Opens, OpensNumbered}
use Rattle.mt_recover.specs.{declared.resuming.LogSlot.LogSlot, declared.resuming.LogSlot.TheVariants.{Open, Failed, Closed, Away}}
use Rattle.mt_store_logs.specs.{declared.last_log.LastLog.LastLog, Places.log_with, Kinds.IsOpenedAs, Waits.{AppendsKept, FailsToAppend, ReopensAt, FailsToReopenAt}}

module _ {D : Type 0} (is_honest : D → Bool) (state : D → DiskState) (failures : D → ℕ) where
  -- a plain file is that of generation 0, and a numbered one that of a later generation
  pub opened_plain : (g : ℕ) (disk : D) (slot : LogSlot D) (front : Front) → g ≡ 0 → Opens is_honest state failures (Some disk) slot front
      → IsOpenedAs is_honest state failures g disk slot
  opened_plain zero disk (Open log) front none opened = (front, opened)
  opened_plain zero disk (Failed other) front none opened = absurd opened
  opened_plain zero disk (Closed other) front none opened = absurd opened
  opened_plain zero disk Away front none opened = absurd opened
  opened_plain (suc n) disk slot front none opened = absurd (omega (arith, none))

  pub opened_later : (g : ℕ) (disk : D) (slot : LogSlot D) (front : Front) → 1 ≤ g → OpensNumbered is_honest state failures (parity_of g) (Some disk) slot (Some front)
      → IsOpenedAs is_honest state failures g disk slot
  opened_later zero disk slot front some opened = absurd (omega (arith, some))
  opened_later (suc n) disk (Open log) front some opened = (front, opened.0)
  opened_later (suc n) disk (Failed other) front some opened = absurd opened
  opened_later (suc n) disk (Closed other) front some opened = absurd opened
  opened_later (suc n) disk Away front some opened = absurd opened

  pub opens_again : (worker g : ℕ) (disk : D) (kept : Option Batch) (slot : LogSlot D) (new : LastLog D)
      → IsOpenedAs is_honest state failures g disk slot → AppendsKept is_honest state failures (log_with worker g slot kept) new
      → ReopensAt is_honest state failures (Closed disk) (log_with worker g (Closed disk) kept) new
  opens_again worker g disk kept (Open log) new opened a = record { log = log; opened = opened; appends = a }
  opens_again worker g disk kept (Failed other) new opened a = absurd opened
  opens_again worker g disk kept (Closed other) new opened a = absurd opened
  opens_again worker g disk kept Away new opened a = absurd opened

  pub opens_but_keeps : (e : Refusal) (worker g : ℕ) (disk : D) (kept : Option Batch) (slot : LogSlot D) (new : LastLog D)
      → IsOpenedAs is_honest state failures g disk slot → FailsToAppend is_honest state failures e (log_with worker g slot kept) new
      → FailsToReopenAt is_honest state failures e (Closed disk) (log_with worker g (Closed disk) kept) new
  opens_but_keeps e worker g disk kept (Open log) new opened f = inr (record { log = log; opened = opened; fails = f })
  opens_but_keeps e worker g disk kept (Failed other) new opened f = absurd opened
  opens_but_keeps e worker g disk kept (Closed other) new opened f = absurd opened
  opens_but_keeps e worker g disk kept Away new opened f = absurd opened
