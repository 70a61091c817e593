-- Another place for one of a worker's files, or another generation that is the first one.
use Rattle.std.proofs.Common.{◌≡◌, ⊎_elim, ℕ, ◌+◌, Bool, sym, ◌∙◌, ap, subst, arith}
use Rattle.std.proofs.lemmas.Bool.{cases_eq}
use Rattle.mt_disk.specs.Disk.{DiskState}
use Rattle.mt_crashes.specs.Stores.{LogNow}
use Rattle.mt_recover.specs.declared.resuming.LogSlot.{LogSlot}
use Rattle.mt_log_files.specs.{declared.worker.WorkerFiles.WorkerFiles, Slots.{file_of, with_file}}
use Rattle.mt_log_files.specs.{Files.{FileNow, Spare, Has}, Workers.AreFilesOf}
use Rattle.mt_log_files.proofs.WorkerLaws as workers
use Rattle.mt_turns.specs.{declared.worker_log.WorkerLog.WorkerLog, Logs.ReplacesLast}
use Rattle.mt_turns.specs.Shows.{AreOfOneWorker, ShowsOf, ShowsWorker}
use Rattle.mt_turns.proofs.Places.{file_is, next_stays, before_stays, two_on}

module _ {D : Type 0} (is_honest : D → Bool) (state : D → DiskState) where
  abbrev Worker : ℕ → LogNow → FileNow → FileNow → WorkerLog D → Type 0
  Worker g now first next log = ShowsWorker is_honest state g now first next log

  abbrev Of : ℕ → FileNow → LogSlot D → Type 0
  Of g file slot = ShowsOf is_honest state g file slot

  even_over : (g : ℕ) (slot : LogSlot D) (files : WorkerFiles D) → g ≡ 0 → (with_file g slot files).even ≡ files.even
  even_over g slot files none = ap (λ (n : ℕ). (with_file n slot files).even) none

  even_next : (g : ℕ) (slot : LogSlot D) (files : WorkerFiles D) → g ≡ 0 → (with_file (g + 1) slot files).even ≡ files.even
  even_next g slot files none = ap (λ (n : ℕ). (with_file (n + 1) slot files).even) none

  pub with_next : (g n : ℕ) (now then : LogNow) → AreOfOneWorker now then → (first file next : FileNow) (old : WorkerLog D) (slot : LogSlot D) → Worker g now first file old
      → Of (g + 1) next slot → AreFilesOf g then first next → Worker g then first next (record old { generation = n; files = with_file (g + 1) slot old.files })
  with_next g n now then one first file next old slot s has are = record {
    first_shows = subst (Of g first) (sym (before_stays g slot old.files)) s.first_shows;
    next_shows = subst (Of (g + 1) next) (sym (file_is (g + 1) slot old.files)) has;
    third_shows = λ none. subst (Of 2 Spare) (sym (even_next g slot old.files none)) (s.third_shows none);
    whole = are;
    worker = s.worker ∙ sym one.0;
    logs = s.logs ∙ sym one.1;
  }

  pub with_first : (g n : ℕ) (now then : LogNow) → AreOfOneWorker now then → (file first next : FileNow) (old : WorkerLog D) (slot : LogSlot D) → Worker g now file next old
      → Of g first slot → AreFilesOf g then first next → Worker g then first next (record old { generation = n; files = with_file g slot old.files })
  with_first g n now then one file first next old slot s has are = record {
    first_shows = subst (Of g first) (sym (file_is g slot old.files)) has;
    next_shows = subst (Of (g + 1) next) (sym (next_stays g slot old.files)) s.next_shows;
    third_shows = λ none. subst (Of 2 Spare) (sym (even_over g slot old.files none)) (s.third_shows none);
    whole = are;
    worker = s.worker ∙ sym one.0;
    logs = s.logs ∙ sym one.1;
  }

  -- another place for the last log, which is that of the first generation or of the next one
  pub last_is_first : (g : ℕ) (now then : LogNow) (file first next : FileNow) (old new : WorkerLog D) (slot : LogSlot D) → old.generation ≡ g → ReplacesLast slot old new
      → AreOfOneWorker now then → Worker g now file next old → Of g first slot → AreFilesOf g then first next → Worker g then first next new
  last_is_first g now then file first next old new slot is replaces one s has are =
      let put : new ≡ record old { generation = old.generation; files = with_file g slot old.files } =
      replaces ∙ ap (λ (n : ℕ). record old { generation = old.generation; files = with_file n slot old.files }) is in
      subst (Worker g then first next) (sym put) (with_first g old.generation now then one file first next old slot s has are)

  pub last_is_next : (g : ℕ) (now then : LogNow) (first file next : FileNow) (old new : WorkerLog D) (slot : LogSlot D) → old.generation ≡ g + 1 → ReplacesLast slot old new
      → AreOfOneWorker now then → Worker g now first file old → Of (g + 1) next slot → AreFilesOf g then first next → Worker g then first next new
  last_is_next g now then first file next old new slot is replaces one s has are =
      let put : new ≡ record old { generation = old.generation; files = with_file (g + 1) slot old.files } =
      replaces ∙ ap (λ (n : ℕ). record old { generation = old.generation; files = with_file n slot old.files }) is in
      subst (Worker g then first next) (sym put) (with_next g old.generation now then one first file next old slot s has are)

  -- once the older log is given up, the next generation is the first one
  pub turned : (g : ℕ) (now next : LogNow) (log : WorkerLog D) → Worker g now Spare (Has next) log → Worker (g + 1) now (Has next) Spare log
  turned g now next log s = record {
    first_shows = s.next_shows;
    next_shows = ⊎_elim
        (λ none. subst (λ (n : ℕ). Of (n + 1 + 1) Spare (file_of (n + 1 + 1) log.files)) (sym none) (s.third_shows none))
        (λ some. subst (Of (g + 1 + 1) Spare) (sym (two_on g log.files some)) (record { honest = s.first_shows.honest; of = tt; shows = s.first_shows.shows }))
        (cases_eq g 0);
    third_shows = λ none. absurd (omega (arith, none));
    whole = workers.turned_files g now next s.whole;
    worker = s.worker;
    logs = s.logs;
  }
