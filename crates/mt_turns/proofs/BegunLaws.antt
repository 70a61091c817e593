-- What a worker's log shows after its next log was begun, or was not.
use Rattle.std.proofs.Common.{◌≡◌, ◌≢◌, ◌⊎◌, inl, inr, ℕ, ◌+◌, Bool, refl, sym, ◌∙◌, ap, subst, arith}
use Rattle.mt_rows.specs.declared.refusal.Refusal.{Refusal}
use Rattle.mt_disk.specs.Disk.{DiskState}
use Rattle.mt_log_generations.specs.{declared.header.Header.Header, Headers.{header_with, parity_of}}
use Rattle.mt_log.specs.{Contents.{Contents, mark_of}, Numbered.begun_log}
use Rattle.mt_crashes.{specs.Stores.{LogNow, at_rest}}
use Rattle.mt_recover.specs.{declared.resuming.LogSlot.LogSlot, declared.resuming.LogSlot.TheVariants.{Closed}}
use Rattle.mt_log_files.specs.{declared.worker.WorkerFiles.WorkerFiles, Slots.{disk_in, file_of, with_file, Begins, NotBegun}}
use Rattle.mt_log_files.specs.{Files.{FileNow, Spare, Has, MayHave}, Workers.{AreFilesOf}}
use Rattle.mt_log_files.proofs.WorkerLaws as workers
use Rattle.mt_log_files.proofs.FileLaws as calls
use Rattle.mt_turns.specs.{declared.worker_log.WorkerLog.WorkerLog}
use Rattle.mt_turns.specs.Turns.{IsNextHeader, HasNoNext, BeginsNext, NextNotBegun, NextNotSpare, FailsToBeginNext}
use Rattle.mt_turns.specs.Shows.{next_log, ShowsOf, ShowsWorker, LeavesMeanwhile}
use Rattle.mt_turns.proofs.{Places.{file_is, next_stays, before_stays}}
use Rattle.mt_turns.proofs.Ends.{last_mark}
use Rattle.mt_turns.proofs.Replacing as replacing
use Rattle.mt_turns.proofs.PlaceLaws as places
use Rattle.mt_rows.specs.declared.refusal.Refusal.TheVariants as refusals

module _ {D : Type 0} (is_honest : D → Bool) (state : D → DiskState) (failures : D → ℕ) where
  abbrev Worker : ℕ → LogNow → FileNow → FileNow → WorkerLog D → Type 0
  Worker g now first next log = ShowsWorker is_honest state g now first next log

  abbrev Of : ℕ → FileNow → LogSlot D → Type 0
  Of g file slot = ShowsOf is_honest state g file slot

  module _ (log first : Contents) (old : WorkerLog D) (s : Worker old.generation (at_rest log) (Has (at_rest first)) Spare old) where
    abbrev then : Contents
    then = next_log old.generation log

    next_is : (header : Header) → IsNextHeader header old → header ≡ header_with log.worker log.logs (old.generation + 1) (mark_of log)
    next_is header n =
        let start = last_mark is_honest state log first old n.last s n.is_open in
        n.is ∙ (λ i. header_with (s.worker i) (s.logs i) (old.generation + 1) (start i))

    may_have : AreFilesOf old.generation (at_rest log) (Has (at_rest first)) (MayHave then)
    may_have = workers.begun_files old.generation (at_rest log) (Has (at_rest first)) then refl (record { start = refl; batches_are = refl; owner = (refl, refl) }) s.whole

    -- the header's generation is the next one
    of_next : (header : Header) → IsNextHeader header old → header.generation ≡ old.generation + 1
    of_next header n = ap (λ (h : Header). h.generation) n.is

    spare_next : (header : Header) → IsNextHeader header old → Of header.generation Spare (file_of (old.generation + 1) old.files)
    spare_next header n = record { honest = s.next_shows.honest; of = tt; shows = s.next_shows.shows }

    has_next : (header : Header) (slot : LogSlot D) → IsNextHeader header old → Begins is_honest state failures header (disk_in (file_of (old.generation + 1) old.files)) slot
        → Of (old.generation + 1) (Has (at_rest then)) slot
    has_next header slot n b =
        subst (λ (h : Header). Of h.generation (Has (at_rest (begun_log h))) slot) (next_is header n)
        (places.begun_place is_honest state failures header (file_of (old.generation + 1) old.files) slot n.fits (spare_next header n) b)

    may_next : (header : Header) (slot : LogSlot D) → IsNextHeader header old → NotBegun is_honest state failures header (disk_in (file_of (old.generation + 1) old.files)) slot
        → Of (old.generation + 1) (MayHave then) slot
    may_next header slot n b =
        subst (λ (h : Header). Of h.generation (MayHave (begun_log h)) slot) (next_is header n)
        (places.not_begun_place is_honest state failures header (file_of (old.generation + 1) old.files) slot n.fits (spare_next header n) b)

    pub begun : (new : WorkerLog D) → BeginsNext is_honest state failures old new → Worker old.generation (at_rest log) (Has (at_rest first)) (Has (at_rest then)) new
    begun new b =
        let are = workers.settled_files old.generation (at_rest log) (Has (at_rest first)) then may_have in
        let w = replacing.with_next is_honest state old.generation (old.generation + 1) (at_rest log) (at_rest log) (refl, refl) (Has (at_rest first)) Spare (Has (at_rest then)) old b.begins.slot s (has_next b.header b.begins.slot b.next b.begins.does) are in
        subst (Worker old.generation (at_rest log) (Has (at_rest first)) (Has (at_rest then)))
        (sym (b.stands ∙ ap (λ (f : WorkerFiles D). record old { generation = old.generation + 1; files = f }) b.begins.stands)) w

    pub not_begun : (new : WorkerLog D) → NextNotBegun is_honest state failures old new → Worker old.generation (at_rest log) (Has (at_rest first)) (MayHave then) new
    not_begun new b =
        let closed = places.closed_shows is_honest state old.generation first b.next.last (subst (Of old.generation (Has (at_rest first))) b.next.is_open s.first_shows) in
        let w = replacing.with_next is_honest state old.generation old.generation (at_rest log) (at_rest log) (refl, refl) (Has (at_rest first)) Spare (MayHave then) old b.fails.slot s (may_next b.header b.fails.slot b.next b.fails.does) may_have in
        let v = replacing.with_first is_honest state old.generation old.generation (at_rest log) (at_rest log) (refl, refl) (Has (at_rest first)) (Has (at_rest first)) (MayHave then)
        (record old { generation = old.generation; files = with_file (old.generation + 1) b.fails.slot old.files }) (Closed b.next.last.disk) w closed may_have in
        subst (Worker old.generation (at_rest log) (Has (at_rest first)) (MayHave then))
        (sym (b.stands ∙ ap (λ (f : WorkerFiles D). record old { generation = old.generation; files = with_file old.generation (Closed b.next.last.disk) f }) b.fails.stands)) v

    never_not_spare : (new : WorkerLog D) → NextNotSpare is_honest state failures old new → ⊥
    never_not_spare new b =
        let slot = file_of (old.generation + 1) old.files in
        let spare = places.numbered_shows is_honest state (old.generation + 1) Spare slot (omega arith) tt s.next_shows.shows in
        calls.never_refused is_honest state failures (parity_of (old.generation + 1)) slot b.finds.slot s.next_shows.honest spare b.finds.does

    pub fails_to_begin : (e : Refusal) (new : WorkerLog D) → FailsToBeginNext is_honest state failures e old new
        → (new ≡ old) ⊎ Worker old.generation (at_rest log) (Has (at_rest first)) (MayHave then) new
    fails_to_begin e new (inl none) = inl none.1
    fails_to_begin e new (inr (inl b)) = inr (not_begun new b.1)
    fails_to_begin e new (inr (inr b)) = absurd (never_not_spare new b.1)

    -- its file is spare
    pub never_log_count : (e : Refusal) (new : WorkerLog D) → FailsToBeginNext is_honest state failures e old new → e ≢ refusals.LogCount
    never_log_count e new (inl none) is = subst (λ (r : Refusal). HasNoNext r old) is none.0
    never_log_count e new (inr (inl b)) is = let clash : refusals.Device ≡ refusals.LogCount = sym b.0 ∙ is in absurd cc
    never_log_count e new (inr (inr b)) is = never_not_spare new b.1

    -- at each moment of either
    abbrev AtEachMoment : WorkerLog D → Type 0
    AtEachMoment new = LeavesMeanwhile state then (file_of (old.generation + 1) old.files) (file_of (old.generation + 1) new.files)
        × (disk_in (file_of old.generation new.files) ≡ disk_in (file_of old.generation old.files))
        × AreFilesOf old.generation (at_rest log) (Has (at_rest first)) (MayHave then)

    pub meanwhile : (new : WorkerLog D) → BeginsNext is_honest state failures old new ⊎ NextNotBegun is_honest state failures old new → AtEachMoment new
    meanwhile new (inl b) =
        let slot = b.begins.slot in
        let files : new.files ≡ with_file (old.generation + 1) slot old.files = ap (λ (w : WorkerLog D). w.files) b.stands ∙ b.begins.stands in
        let m = subst (λ (h : Header). LeavesMeanwhile state (begun_log h) (file_of (old.generation + 1) old.files) slot) (next_is b.header b.next)
        (places.begun_meanwhile is_honest state failures b.header (file_of (old.generation + 1) old.files) slot b.next.fits (spare_next b.header b.next) b.begins.does) in (
          subst (LeavesMeanwhile state then (file_of (old.generation + 1) old.files)) (sym (ap (file_of (old.generation + 1)) files ∙ file_is (old.generation + 1) slot old.files)) m,
          ap disk_in (ap (file_of old.generation) files ∙ before_stays old.generation slot old.files),
          may_have,
        )
    meanwhile new (inr b) =
        let slot = b.fails.slot in
        let mid = with_file (old.generation + 1) slot old.files in
        let files : new.files ≡ with_file old.generation (Closed b.next.last.disk) mid =
        ap (λ (w : WorkerLog D). w.files) b.stands ∙ ap (with_file old.generation (Closed b.next.last.disk)) b.fails.stands in
        let m = subst (λ (h : Header). LeavesMeanwhile state (begun_log h) (file_of (old.generation + 1) old.files) slot) (next_is b.header b.next)
        (places.not_begun_meanwhile is_honest state failures b.header (file_of (old.generation + 1) old.files) slot b.next.fits (spare_next b.header b.next) b.fails.does) in (
          subst (LeavesMeanwhile state then (file_of (old.generation + 1) old.files))
              (sym (ap (file_of (old.generation + 1)) files ∙ next_stays old.generation (Closed b.next.last.disk) mid ∙ file_is (old.generation + 1) slot old.files)) m,
          ap disk_in (ap (file_of old.generation) files ∙ file_is old.generation (Closed b.next.last.disk) mid) ∙ sym (ap disk_in b.next.is_open),
          may_have,
        )
