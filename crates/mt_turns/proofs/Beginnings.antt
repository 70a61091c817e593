-- The next log is begun: its header, and the last log, which is closed if that failed.
use Rattle.std.proofs.Common.{◌≡◌, ℕ, ◌+◌, Bool, Option, Some, refl, ◌∙◌, ap, subst}
use Rattle.std.proofs.lemmas.Option.{same_Some}
use Rattle.mt_disk.specs.Disk.{DiskState}
use Rattle.mt_log_generations.specs.declared.header.Header.{Header}
use Rattle.mt_log.specs.declared.log_file.LogFile.{LogFile}
use Rattle.mt_crashes.proofs.Members.{no_some}
use Rattle.mt_recover.specs.{declared.resuming.LogSlot.LogSlot, declared.resuming.LogSlot.TheVariants.{Open, Failed, Closed, Away}}
use Rattle.mt_log_files.specs.{declared.worker.WorkerFiles.WorkerFiles, Slots.{disk_in, file_of, with_file, NotBegun, FindsNotSpare}}
use Rattle.mt_turns.specs.{declared.worker_log.WorkerLog.WorkerLog, Files.{closed_on, OnFile}, Logs.mark_in, Turns.{IsNextHeader, NextNotBegun, NextNotSpare}}
use Rattle.mt_turns.proofs.Places.{before_stays}

-- a place with a mark is open
pub open_of : {D : Type 0} (slot : LogSlot D) (mark : ℕ) → mark_in slot ≡ Some mark → (log : LogFile D) × (slot ≡ Open log) × (log.mark ≡ mark)
open_of (Open log) mark is = (log, refl, same_Some log.mark mark is)
open_of (Failed log) mark is = absurd (no_some mark is)
open_of (Closed disk) mark is = absurd (no_some mark is)
open_of Away mark is = absurd (no_some mark is)

-- a call on the file of a header's generation is one on that of the next generation
pub on_next : {D : Type 0} (header : Header) (old : WorkerLog D) (Does : Option D → LogSlot D → Type 0) (was is : WorkerFiles D) → IsNextHeader header old
    → OnFile header.generation Does was is → OnFile (old.generation + 1) Does was is
on_next header old Does was is next on = subst (λ (n : ℕ). OnFile n Does was is) (ap (λ (h : Header). h.generation) next.is) on

-- if the next log was not begun, the last one is as it was, and is closed then
pub not_begun : {D : Type 0} (is_honest : D → Bool) (state : D → DiskState) (failures : D → ℕ) (header : Header) (old : WorkerLog D) (mid new : WorkerFiles D)
    → IsNextHeader header old → OnFile header.generation (NotBegun is_honest state failures header) old.files mid
    → new ≡ with_file old.generation (closed_on (disk_in (file_of old.generation mid))) mid
    → NextNotBegun is_honest state failures old (record old { files = new })
not_begun is_honest state failures header old mid new next fails closed =
    let on = on_next header old (NotBegun is_honest state failures header) old.files mid next fails in
    let last : file_of old.generation mid ≡ Open next.last =
    ap (file_of old.generation) on.stands ∙ before_stays old.generation on.slot old.files ∙ next.is_open in
    record {
      header = header;
      next = next;
      files = mid;
      fails = on;
      stands = ap (λ (f : WorkerFiles _). record old { files = f })
          (closed ∙ ap (λ (s : LogSlot _). with_file old.generation (closed_on (disk_in s)) mid) last);
    }

-- if its file isn't spare, only the place of that is another one
pub not_spare : {D : Type 0} (is_honest : D → Bool) (state : D → DiskState) (failures : D → ℕ) (header : Header) (old : WorkerLog D) (mid : WorkerFiles D)
    → IsNextHeader header old → OnFile header.generation (FindsNotSpare is_honest state failures) old.files mid
    → NextNotSpare is_honest state failures old (record old { files = mid })
not_spare is_honest state failures header old mid next finds = record {
  header = header;
  next = next;
  files = mid;
  finds = on_next header old (FindsNotSpare is_honest state failures) old.files mid next finds;
  stands = refl;
}
