-- What an opening finds of a log that a crash may have left, by the place of its file.
use Rattle.std.proofs.Common.{◌≡◌, ⊎_elim, inl, inr, ℕ, zero, suc, [], ◌∷◌, ◌++◌, length, get_or, Bool, IsTrue, Option, Some, None, refl, sym, ◌∙◌, ap, subst, arith}
use Rattle.std.proofs.lemmas.List.{append-nil}
use Rattle.std.specs.List.{flat_map}
use Rattle.mt_rows.specs.Rows.{Bytes}
use Rattle.mt_disk.specs.Disk.{DiskState, Moment, MayLeave, LeavesOnly, moments}
use Rattle.mt_log.specs.{declared.batch.LogBatch.LogBatch, declared.batch.LogBatch.TheVariants.Resume, declared.reader.FileKind.FileKind}
use Rattle.mt_log.specs.{declared.log_file.LogFile.LogFile, declared.failed_log.FailedLog.FailedLog}
use Rattle.mt_log.specs.{Contents.{Contents, IsContents, IsLogBatch, mark_of, log_bytes, with_batch}, Format.{beginning, batch_bytes}}
use Rattle.mt_log.specs.{Fronts.{HasFront, IsOfKind, IsBadLog, IsLeft, IsAtRest, IsOldOrNew}, Logs.{StillLeaves, ReadsOldOrNew}}
use Rattle.mt_log.proofs.FrontLaws.{front_not_bad, left_front, contents_front, contents_more, added_in_format}
use Rattle.mt_crashes.{specs.Stores.{LogNow, MayLeaveFront}, proofs.FrontLaws.mark_more}
use Rattle.mt_recover.specs.declared.resuming.LogSlot.TheVariants.{Open}
use Rattle.mt_log_files.specs.{Slots.IsNoPlainLog, Shows.{LeavesEither, ShowsClosed, ShowsFailed, Shows}}

-- ---- a disk as it is

-- a disk at rest leaves its log, and so, for every batch, the log with it or without
pub at_rest_leaves : (c : Contents) (b : LogBatch) (place : ℕ) (s : DiskState) → IsAtRest (log_bytes c) place s → LeavesOnly (IsLeft c b) s s
at_rest_leaves c b place s rest =
    let left : (image : Bytes) → MayLeave s.now image → IsLeft c b image = λ image may.
    inl (record {
      gate = 0;
      behind = [];
      is_shut = λ e. omega (arith, e);
      whole = may.untouched (ap (λ (m : Moment). m.dirty) rest.durable) ∙ ap (λ (m : Moment). m.durable) rest.durable ∙ rest.image;
      torn = λ open_gate. absurd (open_gate refl);
    }) in
    record {
      so_far = record { since = []; goes_on = sym (append-nil (moments s)); each = λ k d within. absurd (omega (arith, within)) };
      now = left;
      reads = subst (λ (m : Moment). MayLeave m s.image) (sym rest.durable) (record { untouched = λ none. refl; keeps = λ place within clean. refl });
    }

-- ---- which front an opening reads

-- what a batch ends with tells it from another
pick : (c front : Contents) → IsOldOrNew c (Resume 0 0 0) front → IsOldOrNew c (Resume 0 1 0) front → front ≡ c
pick c front (inl e) other = e
pick c front (inr e) (inl f) = f
pick c front (inr e) (inr f) =
    let zero = ap mark_of e ∙ mark_more (Resume 0 0 0) c in
    let one = ap mark_of f ∙ mark_more (Resume 0 1 0) c in
    absurd (omega (arith, zero, one))

-- a front that is the old one or one with a batch, whichever batch, is the old one
reads_rest : (c front : Contents) → ((b : LogBatch) → IsLogBatch c.version b → IsOldOrNew c b front) → front ≡ c
reads_rest c front all =
    pick c front
    (all (Resume 0 0 0) (record { first = omega arith; last = omega arith; past = omega arith }))
    (all (Resume 0 1 0) (record { first = omega arith; last = omega arith; past = omega arith }))

-- ---- a plain file that has a log

-- it begins with M
begins : (c : Contents) (g : ℕ) (more image : Bytes) → g ≡ 0 → image ≡ (beginning c.version c.worker c.logs g c.start ++ flat_map batch_bytes c.batches) ++ more
    → ¬ IsNoPlainLog image
begins c zero more image first whole (inl none) = omega (arith, ap length (sym none ∙ whole))
begins c zero more image first whole (inr closed) = omega (arith, ap (λ (bytes : Bytes). get_or bytes 0 0) (sym whole ∙ closed.whole))
begins c (suc before) more image first whole none = omega (arith, first)

pub has_log : (c : Contents) (image : Bytes) → c.generation ≡ 0 → HasFront c image → ¬ IsNoPlainLog image
has_log c image first front = begins c c.generation (front.gate ∷ front.behind) image first front.whole

module _ {D : Type 0} (is_honest : D → Bool) (state : D → DiskState) where
  pub reads : (had : Contents) (doubt : Option LogBatch) (disk : D) (front : Contents) → IsTrue (is_honest disk) → IsContents had
      → ShowsClosed state had doubt disk → ReadsOldOrNew is_honest state disk front → MayLeaveFront (record { had = had; doubt = doubt }) front
  reads had None disk front honest is shows told =
      inl (reads_rest had front (λ b batch. let l = shows b batch in told honest had b l.first (contents_more had b is batch) l.leaves))
  reads had (Some b) disk front honest is shows told =
      ⊎_elim inl (λ e. inr (b, refl, e)) (told honest had b shows.1.first (contents_more had b is shows.0) shows.1.leaves)

  pub still : (had : Contents) (doubt : Option LogBatch) (old disk : D) → IsTrue (is_honest old) → IsContents had → ShowsClosed state had doubt old
      → StillLeaves is_honest state old disk → ShowsClosed state had doubt disk
  still had None old disk honest is shows leaves = λ b batch.
      let l = shows b batch in
      record { first = l.first; leaves = leaves honest had b l.first (contents_more had b is batch) l.leaves }
  still had (Some b) old disk honest is shows leaves =
      let l = shows.1 in
      (shows.0, record { first = l.first; leaves = leaves honest had b l.first (contents_more had b is shows.0) l.leaves })

  not_bad_either : (kind : FileKind) (had : Contents) (b : LogBatch) (disk : D) (number offset : ℕ) → IsOfKind kind had.generation → IsContents had → IsLogBatch had.version b → LeavesEither state had b disk
      → IsBadLog kind (state disk).image number offset → ⊥
  not_bad_either kind had b disk number offset of is batch l bad =
      let image = (state disk).image in
      ⊎_elim
      (λ front. front_not_bad kind had image number offset of front bad)
      (λ front. front_not_bad kind (with_batch b had) image number offset of front bad)
      (left_front had b image (contents_more had b is batch) (l.leaves.now image l.leaves.reads))

  pub not_bad : (kind : FileKind) (had : Contents) (doubt : Option LogBatch) (disk : D) (number offset : ℕ) → IsOfKind kind had.generation → IsContents had → ShowsClosed state had doubt disk
      → IsBadLog kind (state disk).image number offset → ⊥
  not_bad kind had None disk number offset of is shows bad =
      let batch : IsLogBatch had.version (Resume 0 0 0) = record { first = omega arith; last = omega arith; past = omega arith } in
      not_bad_either kind had (Resume 0 0 0) disk number offset of is batch (shows (Resume 0 0 0) batch) bad
  not_bad kind had (Some b) disk number offset of is shows bad = not_bad_either kind had b disk number offset of is shows.0 shows.1 bad

  not_none_either : (had : Contents) (b : LogBatch) (disk : D) → had.generation ≡ 0 → IsContents had → IsLogBatch had.version b → LeavesEither state had b disk
      → ¬ IsNoPlainLog (state disk).image
  not_none_either had b disk first is batch l none =
      let image = (state disk).image in
      ⊎_elim
      (λ front. has_log had image first front none)
      (λ front. has_log (with_batch b had) image first front none)
      (left_front had b image (contents_more had b is batch) (l.leaves.now image l.leaves.reads))

  pub not_none : (had : Contents) (doubt : Option LogBatch) (disk : D) → had.generation ≡ 0 → IsContents had → ShowsClosed state had doubt disk
      → ¬ IsNoPlainLog (state disk).image
  not_none had None disk first is shows none =
      let batch : IsLogBatch had.version (Resume 0 0 0) = record { first = omega arith; last = omega arith; past = omega arith } in
      not_none_either had (Resume 0 0 0) disk first is batch (shows (Resume 0 0 0) batch) none
  not_none had (Some b) disk first is shows none = not_none_either had b disk first is shows.0 shows.1 none

  -- the disk of an open log, as if it were closed
  pub open_shows : (now : LogNow) (log : LogFile D) → Shows state now (Open log) → IsContents now.had × ShowsClosed state now.had now.doubt log.disk
  open_shows now log shows = (
    shows.1.contents,
    subst (λ d. ShowsClosed state now.had d log.disk) (sym shows.0)
        (λ b batch. record { first = state log.disk; leaves = at_rest_leaves now.had b log.end (state log.disk) shows.1.rest }),
  )

  -- the disk of a log on which an append failed, as if it were closed
  pub failed_shows : (now : LogNow) (log : FailedLog D) → ShowsFailed state now log → IsContents now.had × ShowsClosed state now.had now.doubt log.disk
  failed_shows now log shows =
      let f = shows.failed in (
        contents_front now.had shows.batch f.contents,
        subst (λ d. ShowsClosed state now.had d log.disk) (sym shows.in_doubt)
            (added_in_format now.had shows.batch f.contents, record { first = shows.first; leaves = f.leaves }),
      )
