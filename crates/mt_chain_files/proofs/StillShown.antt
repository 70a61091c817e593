-- What a worker's files showed they show if their logs are only read.
use Rattle.std.proofs.Common.{inl, inr, ℕ, Bool, IsTrue, List, sym, ◌∙◌, subst}
use Rattle.std.specs.{List.AllZip}
use Rattle.mt_disk.specs.Disk.{DiskState}
use Rattle.mt_log_generations.specs.declared.header.{Parity.Parity, Parity.TheVariants.{Even, Odd}}
use Rattle.mt_log.specs.{declared.log_file.LogFile.LogFile, Rereading.IsOnlyRead}
use Rattle.mt_recover.specs.{declared.resuming.LogSlot.LogSlot, declared.resuming.LogSlot.TheVariants.{Open}}
use Rattle.mt_log_files.specs.{declared.worker.WorkerFiles.WorkerFiles, Shows.IsHonest, Files.{FileNow, Spare, Has, MayHave, ShowsFile}}
use Rattle.mt_chain_files.specs.{Turns.{FilesNow, ShowsPlain, ShowFiles}, Rereads.{SlotIsRead, FilesAreRead, AllAreRead}}
use Rattle.mt_chain_files.proofs.{StillOpen.log_stays, Loops.{zip_of, zip_count, get_within}}
use Rattle.mt_crashes.proofs.Invariant.{zip_left}

module _ {D : Type 0} (is_honest : D → Bool) (state : D → DiskState) (failures : D → ℕ) (well : Bool) where
  plain_log : (file : FileNow) (old new : LogFile D) → IsOnlyRead is_honest state old new → ShowsPlain is_honest state file (Open old) → ShowsPlain is_honest state file (Open new)
  plain_log (Has now) old new read shows = (subst IsTrue (sym read.honest) shows.0, (shows.1.0, log_stays is_honest state failures now.had old new read shows.0 shows.1.1))
  plain_log Spare old new read shows = tt
  plain_log (MayHave c) old new read shows = tt

  plain_shown : (file : FileNow) (old new : LogSlot D) → SlotIsRead is_honest state failures well old new → ShowsPlain is_honest state file old → ShowsPlain is_honest state file new
  plain_shown file old new (inl same) shows = subst (ShowsPlain is_honest state file) (sym same) shows
  plain_shown file old new (inr l) shows =
      subst (ShowsPlain is_honest state file) (sym l.to) (plain_log file l.was l.is l.only (subst (ShowsPlain is_honest state file) l.from shows))

  abbrev ShowsNumbered : Parity → FileNow → LogSlot D → Type 0
  ShowsNumbered parity file slot = IsHonest is_honest slot × ShowsFile state parity file slot

  numbered_log : (parity : Parity) (file : FileNow) (old new : LogFile D) → IsOnlyRead is_honest state old new → ShowsNumbered parity file (Open old) → ShowsNumbered parity file (Open new)
  numbered_log parity (Has now) old new read shows =
      (subst IsTrue (sym read.honest) shows.0, ((shows.1.0.0, log_stays is_honest state failures now.had old new read shows.0 shows.1.0.1), shows.1.1))
  numbered_log parity Spare old new read shows = absurd shows.1
  numbered_log parity (MayHave c) old new read shows = absurd shows.1

  numbered_shown : (parity : Parity) (file : FileNow) (old new : LogSlot D) → SlotIsRead is_honest state failures well old new → ShowsNumbered parity file old → ShowsNumbered parity file new
  numbered_shown parity file old new (inl same) shows = subst (ShowsNumbered parity file) (sym same) shows
  numbered_shown parity file old new (inr l) shows =
      subst (ShowsNumbered parity file) (sym l.to) (numbered_log parity file l.was l.is l.only (subst (ShowsNumbered parity file) l.from shows))

  pub shown_again : (file : FilesNow) (old new : WorkerFiles D) → FilesAreRead is_honest state failures well old new → ShowFiles is_honest state file old → ShowFiles is_honest state file new
  shown_again file old new read shows = record {
    plain = plain_shown file.plain old.plain new.plain read.plain shows.plain;
    even = numbered_shown Even file.even old.even new.even read.even shows.even;
    odd = numbered_shown Odd file.odd old.odd new.odd read.odd shows.odd;
  }

  pub all_shown_again : (files : List FilesNow) (old new : List (WorkerFiles D)) → AllAreRead is_honest state failures well old new → AllZip (ShowFiles is_honest state) files old
      → AllZip (ShowFiles is_honest state) files new
  all_shown_again files old new read shows =
      zip_of (ShowFiles is_honest state) files new (read.len ∙ zip_count (ShowFiles is_honest state) files old shows)
      (λ k file is there then.
      let was = zip_left (ShowFiles is_honest state) files old k file shows there in
      shown_again file was.0 is (read.each k was.0 is (get_within old k was.0 was.1) was.1 then) was.2)
