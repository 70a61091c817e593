-- What a worker's log shows after its older log was given up, or was not.
use Rattle.std.proofs.Common.{◌≡◌, ◌⊎◌, inl, inr, ℕ, ◌+◌, Bool, Option, refl, sym, ◌∙◌, ap, subst, arith}
use Rattle.mt_rows.specs.declared.refusal.Refusal.{Refusal}
use Rattle.mt_disk.specs.Disk.{DiskState}
use Rattle.mt_log.specs.{declared.log_file.LogFile.LogFile, Contents.{Contents, IsContents}}
use Rattle.mt_crashes.{specs.Stores.{LogNow, at_rest}}
use Rattle.mt_recover.specs.{declared.resuming.LogSlot.LogSlot, declared.resuming.LogSlot.TheVariants.{Open}}
use Rattle.mt_log_files.specs.{declared.worker.WorkerFiles.WorkerFiles, Slots.{disk_in, file_of, with_file, GivesUp, NotGivenUp}}
use Rattle.mt_log_files.specs.{Files.{FileNow, Spare, Has, MayHave}, Workers.{AreFilesOf}}
use Rattle.mt_log_files.proofs.WorkerLaws as workers
use Rattle.mt_turns.specs.{declared.worker_log.WorkerLog.WorkerLog, Files.OnFile}
use Rattle.mt_turns.specs.Turns.{OnOlder, GivesUpOlder, FailsToGiveUpOlder}
use Rattle.mt_turns.specs.Shows.{ShowsOf, ShowsWorker, LeavesMeanwhile}
use Rattle.mt_turns.proofs.{Places.{file_is, next_stays}}
use Rattle.mt_turns.proofs.Replacing as replacing
use Rattle.mt_turns.proofs.PlaceLaws as places

module _ {D : Type 0} (is_honest : D → Bool) (state : D → DiskState) (failures : D → ℕ) where
  abbrev Worker : ℕ → LogNow → FileNow → FileNow → WorkerLog D → Type 0
  Worker g now first next log = ShowsWorker is_honest state g now first next log

  abbrev Of : ℕ → FileNow → LogSlot D → Type 0
  Of g file slot = ShowsOf is_honest state g file slot

  -- the older file is that of the generation before
  on_older : (Does : Option D → LogSlot D → Type 0) (g : ℕ) (old new : WorkerLog D) → old.generation ≡ g + 1 → (b : OnOlder Does old new) → OnFile g Does old.files b.files
  on_older Does g old new is b = subst (λ (n : ℕ). OnFile n Does old.files b.files) (omega (arith, is, b.older)) b.does

  stands_so : (Does : Option D → LogSlot D → Type 0) (g : ℕ) (old new : WorkerLog D) (b : OnOlder Does old new) (on : OnFile g Does old.files b.files)
      → new ≡ record old { generation = old.generation; files = with_file g on.slot old.files }
  stands_so Does g old new b on = b.stands ∙ ap (λ (f : WorkerFiles D). record old { generation = old.generation; files = f }) on.stands

  spared : (g : ℕ) (now next : LogNow) (first : FileNow) (old new : WorkerLog D) → old.generation ≡ g + 1 → Worker g now first (Has next) old
      → AreFilesOf g now Spare (Has next) → GivesUpOlder is_honest state failures old new → Worker g now Spare (Has next) new × Worker (g + 1) now (Has next) Spare new
  spared g now next first old new is s are (inr none) = absurd (omega (arith, is, none.0))
  spared g now next first old new is s are (inl b) =
      let on = on_older (GivesUp is_honest state failures) g old new is b in
      let has = places.given_up_place is_honest state failures g (file_of g old.files) on.slot s.first_shows.honest on.does in
      let w = subst (Worker g now Spare (Has next)) (sym (stands_so (GivesUp is_honest state failures) g old new b on))
      (replacing.with_first is_honest state g old.generation now now (refl, refl) first Spare (Has next) old on.slot s has are) in
      (w, replacing.turned is_honest state g now next new w)

  pub given_up : (g : ℕ) (now next : LogNow) (first : Contents) (old new : WorkerLog D) → old.generation ≡ g + 1 → Worker g now (Has (at_rest first)) (Has next) old
      → GivesUpOlder is_honest state failures old new → Worker g now Spare (Has next) new × Worker (g + 1) now (Has next) Spare new
  given_up g now next first old new is s b =
      let are = workers.given_up_files g now first (Has next) (workers.giving_up_files g now first (Has next) s.whole) in
      spared g now next (Has (at_rest first)) old new is s are b

  pub given_up_again : (g : ℕ) (now next : LogNow) (first : Contents) (old new : WorkerLog D) → old.generation ≡ g + 1 → Worker g now (MayHave first) (Has next) old
      → GivesUpOlder is_honest state failures old new → Worker g now Spare (Has next) new × Worker (g + 1) now (Has next) Spare new
  given_up_again g now next first old new is s b =
      spared g now next (MayHave first) old new is s (workers.given_up_files g now first (Has next) s.whole) b

  -- a log or none may be left in the older file
  abbrev MayStand : ℕ → Contents → WorkerLog D → Type 0
  MayStand g first old = (first.generation ≡ g) × IsContents first × places.MayBeGivenUp is_honest state failures first (disk_in (file_of g old.files))

  stands_open : (g : ℕ) (now next : LogNow) (first : Contents) (file : LogFile D) (old : WorkerLog D) → file_of g old.files ≡ Open file
      → Worker g now (Has (at_rest first)) (Has next) old → MayStand g first old
  stands_open g now next first file old is_open s =
      let o = subst (Of g (Has (at_rest first))) is_open s.first_shows in (
        s.first_shows.of,
        o.shows.1.contents,
        subst (λ (slot : LogSlot D). places.MayBeGivenUp is_honest state failures first (disk_in slot)) (sym is_open) (places.open_may is_honest state failures g first file o),
      )

  stands_closed : (g : ℕ) (now next : LogNow) (first : Contents) (old : WorkerLog D) → Worker g now (MayHave first) (Has next) old → MayStand g first old
  stands_closed g now next first old s =
      let may = places.closed_may is_honest state failures g first (file_of g old.files) s.first_shows in
      (s.first_shows.of, may.0, may.1)

  kept : (g : ℕ) (now next : LogNow) (first : Contents) (file : FileNow) (old new : WorkerLog D) → old.generation ≡ g + 1 → Worker g now file (Has next) old
      → MayStand g first old → AreFilesOf g now (MayHave first) (Has next) → OnOlder (NotGivenUp is_honest state failures) old new → Worker g now (MayHave first) (Has next) new
  kept g now next first file old new is s may are b =
      let on = on_older (NotGivenUp is_honest state failures) g old new is b in
      let has = places.not_given_up_place is_honest state failures g first (disk_in (file_of g old.files)) on.slot may.0 may.1 may.2 on.does in
      subst (Worker g now (MayHave first) (Has next)) (sym (stands_so (NotGivenUp is_honest state failures) g old new b on))
      (replacing.with_first is_honest state g old.generation now now (refl, refl) file (MayHave first) (Has next) old on.slot s has are)

  pub not_given_up : (g : ℕ) (now next : LogNow) (first : Contents) (file : LogFile D) (e : Refusal) (old new : WorkerLog D) → old.generation ≡ g + 1
      → file_of g old.files ≡ Open file → Worker g now (Has (at_rest first)) (Has next) old → FailsToGiveUpOlder is_honest state failures e old new
      → Worker g now (MayHave first) (Has next) new
  not_given_up g now next first file e old new is is_open s b =
      kept g now next first (Has (at_rest first)) old new is s (stands_open g now next first file old is_open s) (workers.giving_up_files g now first (Has next) s.whole) b.1

  pub not_given_up_again : (g : ℕ) (now next : LogNow) (first : Contents) (e : Refusal) (old new : WorkerLog D) → old.generation ≡ g + 1
      → Worker g now (MayHave first) (Has next) old → FailsToGiveUpOlder is_honest state failures e old new → Worker g now (MayHave first) (Has next) new
  not_given_up_again g now next first e old new is s b = kept g now next first (MayHave first) old new is s (stands_closed g now next first old s) s.whole b.1

  -- at each moment of either
  abbrev Meanwhile : ℕ → LogNow → LogNow → Contents → WorkerLog D → WorkerLog D → Type 0
  Meanwhile g now next first old new = LeavesMeanwhile state first (file_of g old.files) (file_of g new.files) × (file_of (g + 1) new.files ≡ file_of (g + 1) old.files)
      × AreFilesOf g now (MayHave first) (Has next)

  abbrev IsCalled : WorkerLog D → WorkerLog D → Type 0
  IsCalled old new = OnOlder (GivesUp is_honest state failures) old new ⊎ OnOlder (NotGivenUp is_honest state failures) old new

  moments : (Does : Option D → LogSlot D → Type 0) (g : ℕ) (now next : LogNow) (first : Contents) (old new : WorkerLog D) → old.generation ≡ g + 1
      → AreFilesOf g now (MayHave first) (Has next) → OnOlder Does old new
      → ((slot : LogSlot D) → Does (disk_in (file_of g old.files)) slot → LeavesMeanwhile state first (file_of g old.files) slot) → Meanwhile g now next first old new
  moments Does g now next first old new is are b leaves =
      let on = on_older Does g old new is b in
      let files : new.files ≡ with_file g on.slot old.files = ap (λ (w : WorkerLog D). w.files) (stands_so Does g old new b on) in (
        subst (LeavesMeanwhile state first (file_of g old.files)) (sym (ap (file_of g) files ∙ file_is g on.slot old.files)) (leaves on.slot on.does),
        ap (file_of (g + 1)) files ∙ next_stays g on.slot old.files,
        are,
      )

  either : (g : ℕ) (now next : LogNow) (first : Contents) (old new : WorkerLog D) → old.generation ≡ g + 1 → MayStand g first old
      → AreFilesOf g now (MayHave first) (Has next) → IsCalled old new → Meanwhile g now next first old new
  either g now next first old new is may are (inl b) =
      let file = file_of g old.files in
      moments (GivesUp is_honest state failures) g now next first old new is are b
      (λ slot does. places.given_up_meanwhile is_honest state failures first file slot (disk_in file) refl may.2 does)
  either g now next first old new is may are (inr b) =
      let file = file_of g old.files in
      moments (NotGivenUp is_honest state failures) g now next first old new is are b
      (λ slot does. places.not_given_up_meanwhile is_honest state failures first file slot (disk_in file) refl may.2 does)

  pub meanwhile_given_up : (g : ℕ) (now next : LogNow) (first : Contents) (file : LogFile D) (old new : WorkerLog D) → old.generation ≡ g + 1
      → file_of g old.files ≡ Open file → Worker g now (Has (at_rest first)) (Has next) old → IsCalled old new → Meanwhile g now next first old new
  meanwhile_given_up g now next first file old new is is_open s b =
      either g now next first old new is (stands_open g now next first file old is_open s) (workers.giving_up_files g now first (Has next) s.whole) b

  pub meanwhile_given_up_again : (g : ℕ) (now next : LogNow) (first : Contents) (old new : WorkerLog D) → old.generation ≡ g + 1
      → Worker g now (MayHave first) (Has next) old → IsCalled old new → Meanwhile g now next first old new
  meanwhile_given_up_again g now next first old new is s b = either g now next first old new is (stands_closed g now next first old s) s.whole b
