-- What an opening of one file finds, or why it fails, if its place shows what the file may be.
use Rattle.std.proofs.Common.{◌≡◌, ◌⊎◌, inl, inr, ℕ, Bool, IsTrue, refl, sym, subst, Option, Some, None}
use Rattle.mt_rows.specs.declared.refusal.Refusal.{Refusal}
use Rattle.mt_disk.specs.Disk.{DiskState}
use Rattle.mt_log_generations.specs.declared.header.{Parity.Parity}
use Rattle.mt_log.specs.{declared.batch.Front.Front, Contents.{IsContents, contents_of}}
use Rattle.mt_crashes.specs.{Stores.{LogNow, at_rest, MayLeaveFront}}
use Rattle.mt_recover.specs.{declared.resuming.LogSlot.LogSlot, declared.resuming.LogSlot.TheVariants.{Open, Failed, Closed, Away}}
use Rattle.mt_log_files.specs.Slots.{disk_in, OpensPlain, FailsOn, FailsToOpen, FailsToOpenPlain, FailsOnNumbered, FailsToOpenNumbered}
use Rattle.mt_log_files.specs.{Shows.{ShowsClosed, Shows, IsHonest}, Files.{FileNow, ShowsFile}}
use Rattle.mt_log_files.proofs.{ShowLaws.{reads, still, not_bad, not_none, open_shows, failed_shows}}
use Rattle.mt_log_files.proofs.FileLaws as numbered_files
use Rattle.mt_log.specs.declared.reader.FileKind.TheVariants as kinds
use Rattle.mt_rows.specs.declared.refusal.Refusal.TheVariants as refusals

-- memory was wanting, or the device failed
abbrev pub IsOutside : Refusal → Type 0
IsOutside e = (e ≡ refusals.Memory) ⊎ (e ≡ refusals.Device)

module _ {D : Type 0} (is_honest : D → Bool) (state : D → DiskState) (failures : D → ℕ) where
  -- a disk that shows a log, as if it were closed
  abbrev ShowsDisk : LogNow → D → Type 0
  ShowsDisk now disk = IsTrue (is_honest disk) × IsContents now.had × ShowsClosed state now.had now.doubt disk

  on_disk : (P : Option D → Type 0) (now : LogNow) (slot : LogSlot D) → IsHonest is_honest slot → Shows state now slot
      → ((disk : D) → ShowsDisk now disk → P (Some disk)) → P (disk_in slot)
  on_disk P now (Open log) honest shows each = let o = open_shows is_honest state now log shows in each log.disk (honest, o.0, o.1)
  on_disk P now (Failed log) honest shows each = let o = failed_shows is_honest state now log shows in each log.disk (honest, o.0, o.1)
  on_disk P now (Closed disk) honest shows each = each disk (honest, shows.0, shows.1)
  on_disk P now Away honest shows each = absurd shows

  -- a front was found that a crash might have left, and its log rests
  abbrev pub IsFoundIn : LogNow → Front → LogSlot D → Type 0
  IsFoundIn now front new = MayLeaveFront now (contents_of front) × IsHonest is_honest new × Shows state (at_rest (contents_of front)) new

  plain_on : (now : LogNow) (disk : D) (new : LogSlot D) (found : Option Front) → now.had.generation ≡ 0 → ShowsDisk now disk
      → OpensPlain is_honest state failures (Some disk) new found → (front : Front) × (found ≡ Some front) × IsFoundIn now front new
  plain_on now disk (Open log) (Some front) first shows o = (
    front,
    refl,
    (reads is_honest state now.had now.doubt disk (contents_of front) shows.0 shows.1 shows.2 o.reads, subst IsTrue (sym o.honest) shows.0, (refl, o.has shows.0)),
  )
  plain_on now disk (Failed log) (Some front) first shows o = absurd o
  plain_on now disk (Closed new) (Some front) first shows o = absurd o
  plain_on now disk Away (Some front) first shows o = absurd o
  plain_on now disk (Closed new) None first shows o = absurd (not_none is_honest state now.had now.doubt disk first shows.1 shows.2 (o.none shows.0))
  plain_on now disk (Open log) None first shows o = absurd o
  plain_on now disk (Failed log) None first shows o = absurd o
  plain_on now disk Away None first shows o = absurd o

  -- an opening of a plain file finds its log, as a crash might have left it
  pub plain_found : (now : LogNow) (old new : LogSlot D) (found : Option Front) → now.had.generation ≡ 0 → IsHonest is_honest old → Shows state now old
      → OpensPlain is_honest state failures (disk_in old) new found → (front : Front) × (found ≡ Some front) × IsFoundIn now front new
  plain_found now old new found first honest shows =
      on_disk (λ (d : Option D). OpensPlain is_honest state failures d new found → (front : Front) × (found ≡ Some front) × IsFoundIn now front new) now old honest shows
      (λ disk there o. plain_on now disk new found first there o)

  -- the place shows what it showed
  abbrev pub IsStill : LogNow → Refusal → LogSlot D → Type 0
  IsStill now e new = IsOutside e × IsHonest is_honest new × Shows state now new

  plain_fault : (now : LogNow) (e : Refusal) (old disk : D) → now.had.generation ≡ 0 → ShowsDisk now old → FailsOn is_honest state failures e old disk
      → IsOutside e × IsHonest is_honest (Closed disk) × Shows state now (Closed disk)
  plain_fault now refusals.Device old disk first shows f =
      (inr refl, subst IsTrue (sym f.2) shows.0, (shows.1, still is_honest state now.had now.doubt old disk shows.0 shows.1 shows.2 f.0))
  plain_fault now refusals.Memory old disk first shows f =
      (inl refl, subst IsTrue (sym f.2) shows.0, (shows.1, still is_honest state now.had now.doubt old disk shows.0 shows.1 shows.2 f.0))
  plain_fault now (refusals.BadLog number offset) old disk first shows f =
      absurd (not_bad is_honest state kinds.Plain now.had now.doubt old number offset first shows.1 shows.2 (f.bad shows.0))
  plain_fault now refusals.KeyLong old disk first shows f = absurd f
  plain_fault now refusals.TenantThere old disk first shows f = absurd f
  plain_fault now (refusals.NoTenant t) old disk first shows f = absurd f
  plain_fault now refusals.Column old disk first shows f = absurd f
  plain_fault now refusals.ColumnLong old disk first shows f = absurd f
  plain_fault now refusals.Quota old disk first shows f = absurd f
  plain_fault now refusals.ScanCount old disk first shows f = absurd f
  plain_fault now refusals.Spent old disk first shows f = absurd f
  plain_fault now (refusals.WrongTurn m) old disk first shows f = absurd f
  plain_fault now (refusals.StampsFall n x) old disk first shows f = absurd f
  plain_fault now (refusals.OverQuota t) old disk first shows f = absurd f
  plain_fault now refusals.LogCount old disk first shows f = absurd f
  plain_fault now refusals.BadFrame old disk first shows f = absurd f
  plain_fault now refusals.NotOpen old disk first shows f = absurd f
  plain_fault now refusals.OpenTwice old disk first shows f = absurd f
  plain_fault now refusals.NoRoom old disk first shows f = absurd f
  plain_fault now refusals.NoStore old disk first shows f = absurd f

  plain_stops : (now : LogNow) (e : Refusal) (disk : D) (new : LogSlot D) → now.had.generation ≡ 0 → ShowsDisk now disk → FailsToOpen is_honest state failures e (Some disk) new
      → IsStill now e new
  plain_stops now e disk (Closed new) first shows f = plain_fault now e disk new first shows f
  plain_stops now e disk (Open log) first shows f = absurd f
  plain_stops now e disk (Failed log) first shows f = absurd f
  plain_stops now e disk Away first shows f = absurd f

  -- one that fails, fails for memory or by the device alone
  pub plain_failed : (now : LogNow) (e : Refusal) (old new : LogSlot D) → now.had.generation ≡ 0 → IsHonest is_honest old → Shows state now old
      → FailsToOpenPlain is_honest state failures e (disk_in old) new → IsStill now e new
  plain_failed now e old new first honest shows =
      on_disk (λ (d : Option D). FailsToOpenPlain is_honest state failures e d new → IsStill now e new) now old honest shows
      (λ disk there f. plain_stops now e disk new first there f.0)

  numbered_fault : (parity : Parity) (e : Refusal) (old disk : D) → ((number offset : ℕ) → e ≡ refusals.BadLog number offset → ⊥)
      → FailsOnNumbered is_honest state failures parity e old disk → IsOutside e
  numbered_fault parity refusals.Device old disk fine f = inr refl
  numbered_fault parity refusals.Memory old disk fine f = inl refl
  numbered_fault parity (refusals.BadLog number offset) old disk fine f = absurd (fine number offset refl)
  numbered_fault parity refusals.KeyLong old disk fine f = absurd f
  numbered_fault parity refusals.TenantThere old disk fine f = absurd f
  numbered_fault parity (refusals.NoTenant t) old disk fine f = absurd f
  numbered_fault parity refusals.Column old disk fine f = absurd f
  numbered_fault parity refusals.ColumnLong old disk fine f = absurd f
  numbered_fault parity refusals.Quota old disk fine f = absurd f
  numbered_fault parity refusals.ScanCount old disk fine f = absurd f
  numbered_fault parity refusals.Spent old disk fine f = absurd f
  numbered_fault parity (refusals.WrongTurn m) old disk fine f = absurd f
  numbered_fault parity (refusals.StampsFall n x) old disk fine f = absurd f
  numbered_fault parity (refusals.OverQuota t) old disk fine f = absurd f
  numbered_fault parity refusals.LogCount old disk fine f = absurd f
  numbered_fault parity refusals.BadFrame old disk fine f = absurd f
  numbered_fault parity refusals.NotOpen old disk fine f = absurd f
  numbered_fault parity refusals.OpenTwice old disk fine f = absurd f
  numbered_fault parity refusals.NoRoom old disk fine f = absurd f
  numbered_fault parity refusals.NoStore old disk fine f = absurd f

  numbered_stops : (parity : Parity) (e : Refusal) (old : Option D) (new : LogSlot D) → ((number offset : ℕ) → e ≡ refusals.BadLog number offset → ⊥)
      → FailsToOpenNumbered is_honest state failures parity e old new → IsOutside e
  numbered_stops parity e (Some old) (Closed disk) fine f = numbered_fault parity e old disk fine f.0
  numbered_stops parity e (Some old) (Open log) fine f = absurd f
  numbered_stops parity e (Some old) (Failed log) fine f = absurd f
  numbered_stops parity e (Some old) Away fine f = absurd f
  numbered_stops parity e None Away fine f = inr f
  numbered_stops parity e None (Open log) fine f = absurd f
  numbered_stops parity e None (Failed log) fine f = absurd f
  numbered_stops parity e None (Closed disk) fine f = absurd f

  pub numbered_failed : (parity : Parity) (file : FileNow) (e : Refusal) (old new : LogSlot D) → IsHonest is_honest old × ShowsFile state parity file old
      → FailsToOpenNumbered is_honest state failures parity e (disk_in old) new → IsOutside e × (IsHonest is_honest new × ShowsFile state parity file new)
  numbered_failed parity file e old new shows f =
      let n = numbered_files.fails_to_open is_honest state failures parity file e old new shows.0 shows.1 f in
      (numbered_stops parity e (disk_in old) new n.2 f, (n.0, n.1))
