-- The file of a generation's log, by its kind: plain for generation 0, and numbered for any later one.
use Rattle.std.specs.Prelude.{◌≡◌, ◌⊎◌, ℕ, zero, suc, Bool, Some, None}
use Rattle.mt_rows.specs.{declared.refusal.Refusal.Refusal, declared.refusal.Refusal.TheVariants.LogCount}
use Rattle.mt_disk.specs.Disk.{DiskState}
use Rattle.mt_log_generations.specs.Headers.{parity_of}
use Rattle.mt_log.specs.{declared.batch.Front.Front, declared.log_file.LogFile.LogFile, declared.reader.FileKind.FileKind, Logs.Opened}
use Rattle.mt_log.specs.declared.reader.FileKind.TheVariants.{Plain, Numbered}
use Rattle.mt_log_files.specs.Slots.{OpensNumbered, FailsToOpen, FailsToOpenNumbered}
use Rattle.mt_recover.specs.{declared.resuming.LogSlot.LogSlot, declared.resuming.LogSlot.TheVariants.{Open}}

-- the kind of the file of a generation's log
abbrev pub kind_of : ℕ → FileKind
kind_of zero = Plain
kind_of (suc before) = Numbered (parity_of (suc before))

module _ {D : Type 0} (is_honest : D → Bool) (state : D → DiskState) (failures : D → ℕ) where
  -- the front of a generation's log was read, whatever it is
  abbrev pub IsRead : ℕ → D → LogFile D → Type 0
  IsRead generation disk log = (front : Front) × Opened (kind_of generation) is_honest state failures disk log front

  -- it was, and the log is open at its place
  abbrev pub IsOpenedAs : ℕ → D → LogSlot D → Type 0
  IsOpenedAs generation disk (Open log) = IsRead generation disk log
  IsOpenedAs generation disk slot = ⊥

  -- a numbered file has no log
  abbrev pub HasNone : ℕ → D → LogSlot D → Type 0
  HasNone generation disk slot = OpensNumbered is_honest state failures (parity_of generation) (Some disk) slot None

  -- why a log is not open
  abbrev pub NotOpenedAs : ℕ → Refusal → D → LogSlot D → Type 0
  NotOpenedAs zero e disk slot = FailsToOpen is_honest state failures e (Some disk) slot
  NotOpenedAs (suc before) e disk slot =
      FailsToOpenNumbered is_honest state failures (parity_of (suc before)) e (Some disk) slot ⊎ ((e ≡ LogCount) × HasNone (suc before) disk slot)
