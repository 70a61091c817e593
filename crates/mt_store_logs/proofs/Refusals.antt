-- Why a store's own log is not opened again: there is no memory, or the device failed.
use Rattle.std.proofs.Common.{◌≡◌, ◌≢◌, ◌⊎◌, inl, inr, ℕ, zero, suc, Bool, IsTrue, Option, Some, None, refl, ap, subst, arith}
use Rattle.mt_rows.specs.declared.refusal.Refusal.{Refusal}
use Rattle.mt_disk.specs.Disk.{DiskState}
use Rattle.mt_log_generations.specs.{declared.header.Parity.Parity, Headers.parity_of}
use Rattle.mt_log.specs.Fronts.{IsOfKind}
use Rattle.mt_log.specs.declared.reader.FileKind.TheVariants.{Numbered}
use Rattle.mt_crashes.{specs.Stores.LogNow, proofs.Members.no_some}
use Rattle.mt_recover.specs.{declared.resuming.LogSlot.LogSlot, declared.resuming.LogSlot.TheVariants.{Open, Failed, Closed, Away}}
use Rattle.mt_log_files.specs.{Slots.{FailsOn, FailsToOpen, FailsOnNumbered, FailsToOpenNumbered}, Files.Has}
use Rattle.mt_log_files.proofs.FileLaws as files
use Rattle.mt_store_logs.specs.{declared.last_log.LastLog.LastLog, Kinds.NotOpenedAs, Shows.{Shows, IsHonest, LastStands}}
use Rattle.mt_store_logs.specs.Waits.{opened_with, FailsToAppend, FailsToReopenAt, FailsToReopen}
use Rattle.mt_store_logs.proofs.CallerLemmas as logs
use Rattle.mt_rows.specs.declared.refusal.Refusal.TheVariants as refusals

-- no memory, or the device failed
abbrev pub IsPlainRefusal : Refusal → Type 0
IsPlainRefusal e = (e ≡ refusals.Memory) ⊎ (e ≡ refusals.Device)

abbrev NeverBad : Refusal → Type 0
NeverBad e = (number offset : ℕ) → e ≢ refusals.BadLog number offset

module _ {D : Type 0} (is_honest : D → Bool) (state : D → DiskState) (failures : D → ℕ) where
  -- ---- a file that is not opened

  numbered_on : (parity : Parity) (e : Refusal) (old disk : D) → NeverBad e → FailsOnNumbered is_honest state failures parity e old disk → IsPlainRefusal e
  numbered_on parity refusals.Device old disk never f = inr refl
  numbered_on parity refusals.Memory old disk never f = inl refl
  numbered_on parity (refusals.BadLog n o) old disk never f = absurd (never n o refl)
  numbered_on parity e old disk never f = absurd f

  pub look_refusal : (parity : Parity) (e : Refusal) (disk : Option D) (slot : LogSlot D) → NeverBad e → FailsToOpenNumbered is_honest state failures parity e disk slot
      → IsPlainRefusal e
  look_refusal parity e (Some old) (Closed disk) never f = numbered_on parity e old disk never f.0
  look_refusal parity e (Some old) (Open log) never f = absurd f
  look_refusal parity e (Some old) (Failed log) never f = absurd f
  look_refusal parity e (Some old) Away never f = absurd f
  look_refusal parity e None Away never f = inr f
  look_refusal parity e None (Open log) never f = absurd f
  look_refusal parity e None (Failed log) never f = absurd f
  look_refusal parity e None (Closed disk) never f = absurd f

  plain_on : (e : Refusal) (old disk : D) → NeverBad e → FailsOn is_honest state failures e old disk → IsPlainRefusal e
  plain_on refusals.Device old disk never f = inr refl
  plain_on refusals.Memory old disk never f = inl refl
  plain_on (refusals.BadLog n o) old disk never f = absurd (never n o refl)
  plain_on e old disk never f = absurd f

  plain_refusal : (e : Refusal) (old : D) (slot : LogSlot D) → NeverBad e → FailsToOpen is_honest state failures e (Some old) slot → IsPlainRefusal e
  plain_refusal e old (Closed disk) never f = plain_on e old disk never f
  plain_refusal e old (Open log) never f = absurd f
  plain_refusal e old (Failed log) never f = absurd f
  plain_refusal e old Away never f = absurd f

  later_kind : (n g : ℕ) → g ≡ suc n → IsOfKind (Numbered (parity_of (suc n))) g
  later_kind n g of = (omega (arith, of), ap parity_of of)

  not_read : (g : ℕ) (now : LogNow) (e : Refusal) (old : D) (slot : LogSlot D) → now.had.generation ≡ g → IsTrue (is_honest old) → Shows state now (Closed old)
      → NeverBad e → NotOpenedAs is_honest state failures g e old slot → IsPlainRefusal e
  not_read zero now e old slot of honest shows never f = plain_refusal e old slot never f
  not_read (suc n) now e old slot of honest shows never (inl f) = look_refusal (parity_of (suc n)) e (Some old) slot never f
  not_read (suc n) now e old slot of honest shows never (inr none) =
      let f = files.opened is_honest state failures (parity_of (suc n)) (Has now) (Closed old) slot None honest (shows, later_kind n now.had.generation of) none.1 in
      absurd (no_some f.0.0 f.0.2)

  -- ---- a log that is not opened again

  not_appended : (e : Refusal) (old new : LastLog D) → ((mark : ℕ) → e ≢ refusals.WrongTurn mark) → FailsToAppend is_honest state failures e old new → IsPlainRefusal e
  not_appended refusals.Device old new turn f = inr refl
  not_appended refusals.Memory old new turn f = inl refl
  not_appended (refusals.WrongTurn m) old new turn f = absurd (turn m refl)
  not_appended e old new turn f = absurd f

  refusal_at : (now : LogNow) (e : Refusal) (slot : LogSlot D) (old new : LastLog D) → old.slot ≡ slot → now.had.generation ≡ old.generation
      → LastStands is_honest state now old → NeverBad e → ((mark : ℕ) → e ≢ refusals.WrongTurn mark)
      → FailsToReopenAt is_honest state failures e slot old new → IsPlainRefusal e
  refusal_at now e (Open log) old new is of stands never turn f = not_appended e old new turn f
  refusal_at now e (Failed log) old new is of stands never turn (inl shut) = inr shut.told
  refusal_at now e (Failed log) old new is of stands never turn (inr opens) = not_appended e (opened_with old.worker old.generation opens.log old.kept) new turn opens.fails
  refusal_at now e (Closed disk) old new is of stands never turn (inl closed) =
      not_read old.generation now e disk new.slot of (subst (IsHonest is_honest) is stands.honest) (subst (Shows state now) is stands.shows) never closed.fails
  refusal_at now e (Closed disk) old new is of stands never turn (inr opens) = not_appended e (opened_with old.worker old.generation opens.log old.kept) new turn opens.fails
  refusal_at now e Away old new is of stands never turn f = not_appended e old new turn f

  pub reopen_refusal : (now : LogNow) (e : Refusal) (old new : LastLog D) → now.had.generation ≡ old.generation → LastStands is_honest state now old
      → FailsToReopen is_honest state failures e old new → IsPlainRefusal e
  reopen_refusal now e old new of stands f =
      let l = logs.fails_to_reopen is_honest state failures now e old new of stands f in
      refusal_at now e old.slot old new refl of stands l.6 l.7 f
