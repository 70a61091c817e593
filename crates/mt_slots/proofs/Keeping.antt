-- Whichever slot is written, a crash leaves of the other one what it might before.
use Rattle.std.proofs.Common.{◌≡◌, inl, ℕ, Bool, IsTrue, List, [], ◌∷◌, ◌++◌, Option, Some, None, refl, sym, ◌∙◌, ap, subst}
use Rattle.std.proofs.{lemmas.Option.{same_Some, none-some}, lemmas.List.append-nil, lemmas.List.Elements.All-nil}
use Rattle.mt_rows.specs.{declared.record.TenantPair.TenantPair, Rows.Bytes}
use Rattle.mt_disk.{specs.Disk.{DiskState, LeavesOnlyAt, LeavesOnly, moments}, proofs.CrashLaws.widened}
use Rattle.mt_checkpoint.{specs.Checkpoints.{Walk, In, IsClosed, IsOneOf}, proofs.Crash.made_slot}
use Rattle.mt_slots.specs.{declared.slot.Slot.Slot, declared.slot.Slot.TheVariants.{First, Second}, declared.store_slots.StoreSlots.StoreSlots}
use Rattle.mt_slots.specs.declared.checkpointing.Checkpointing.{Checkpointing}
use Rattle.mt_slots.specs.Places.{Both, at, with, other_of, next_slot, disk_of, slots_with, checkpointing_with, slot_of, given_up}
use Rattle.mt_slots.specs.Calls.{MakesBoth, Begins, FailsToBeginIn, Adds}
use Rattle.mt_slots.specs.Keeps.{Mays, no_checkpoints, or_none, HasOneWalk, LeavesOneOf, KeepsSlots, KeepsWriting}

-- what a crash leaves since an earlier state, it leaves now
pub from_now : (P : Bytes → Type 0) (first s : DiskState) → LeavesOnly P first s → LeavesOnly P s s
from_now P first s kept = record {
  so_far = record { since = []; goes_on = sym (append-nil (moments s)); each = All-nil (LeavesOnlyAt P) };
  now = kept.now;
  reads = kept.reads;
}

-- ---- places

pub at-with : {X : Type 0} (slot : Slot) (x : X) (both : Both X) → at slot (with slot x both) ≡ x
at-with First x both = refl
at-with Second x both = refl

pub other-with : {X : Type 0} (slot : Slot) (x : X) (both : Both X) → at slot (with (other_of slot) x both) ≡ at slot both
other-with First x both = refl
other-with Second x both = refl

-- the next slot isn't that of the newest
pub free : (newest : Option Slot) → newest ≡ Some (next_slot newest) → ⊥
free None e = absurd (none-some _ e)
free (Some First) e = absurd cc
free (Some Second) e = absurd cc

-- so what it may have tells nothing of the newest
pub still_newest : (slot : Slot) (may : List (Option Walk)) (mays : Mays) (newest : Option Slot) → (newest ≡ Some slot → ⊥)
    → ((k : Slot) → newest ≡ Some k → HasOneWalk mays k) → (k : Slot) → newest ≡ Some k → HasOneWalk (with slot may mays) k
still_newest First may mays newest free was First e = absurd (free e)
still_newest First may mays newest free was Second e = was Second e
still_newest Second may mays newest free was First e = was First e
still_newest Second may mays newest free was Second e = absurd (free e)

-- the slot that was ended has the newest
pub now_newest : (slot : Slot) (w : Walk) (mays : Mays) (k : Slot) → Some slot ≡ Some k → HasOneWalk (with slot (Some w ∷ []) mays) k
now_newest slot w mays k e = subst (λ k. HasOneWalk (with slot (Some w ∷ []) mays) k) (same_Some slot k e) (w, at-with slot (Some w ∷ []) mays)

module _ {D : Type 0} where
  pub with-this : (slot : Slot) (disk other : D) (newest : Option Slot) (owed : ℕ) → disk_of slot (slots_with slot disk other newest owed) ≡ disk
  with-this First disk other newest owed = refl
  with-this Second disk other newest owed = refl

  pub with-other : (slot : Slot) (disk other : D) (newest : Option Slot) (owed : ℕ) → disk_of (other_of slot) (slots_with slot disk other newest owed) ≡ other
  with-other First disk other newest owed = refl
  with-other Second disk other newest owed = refl

  pub with-newest : (slot : Slot) (disk other : D) (newest : Option Slot) (owed : ℕ) → (slots_with slot disk other newest owed).newest ≡ newest
  with-newest First disk other newest owed = refl
  with-newest Second disk other newest owed = refl

  pub with-owed : (slot : Slot) (disk other : D) (newest : Option Slot) (owed : ℕ) → (slots_with slot disk other newest owed).owed ≡ owed
  with-owed First disk other newest owed = refl
  with-owed Second disk other newest owed = refl

-- ---- calls

module _ {D : Type 0} (is_honest : D → Bool) (state : D → DiskState) (failures : D → ℕ) where
  abbrev Keeps : Mays → StoreSlots D → Type 0
  Keeps = KeepsSlots is_honest state failures

  -- a slot's disk after a call on it, and the other as it was
  pub placed : (slot : Slot) (may : List (Option Walk)) (mays : Mays) (old new : StoreSlots D) → Keeps mays old → IsTrue (is_honest (disk_of slot new))
      → LeavesOneOf may (state (disk_of slot new)) → disk_of (other_of slot) new ≡ disk_of (other_of slot) old
      → ((k : Slot) → new.newest ≡ Some k → HasOneWalk (with slot may mays) k) → Keeps (with slot may mays) new
  placed First may mays old new kept honest leaves same newest = record {
    honest = elim [ First ↦ honest | Second ↦ subst (λ d. IsTrue (is_honest d)) (sym same) (kept.honest Second) ];
    leaves = elim [ First ↦ leaves | Second ↦ subst (λ d. LeavesOneOf mays.second (state d)) (sym same) (kept.leaves Second) ];
    newest = newest;
  }
  placed Second may mays old new kept honest leaves same newest = record {
    honest = elim [ First ↦ subst (λ d. IsTrue (is_honest d)) (sym same) (kept.honest First) | Second ↦ honest ];
    leaves = elim [ First ↦ subst (λ d. LeavesOneOf mays.first (state d)) (sym same) (kept.leaves First) | Second ↦ leaves ];
    newest = newest;
  }

  -- and the newest is as before
  written : (slot : Slot) (may : List (Option Walk)) (mays : Mays) (old new : StoreSlots D) → (old.newest ≡ Some slot → ⊥) → Keeps mays old
      → IsTrue (is_honest (disk_of slot new)) → LeavesOneOf may (state (disk_of slot new)) → disk_of (other_of slot) new ≡ disk_of (other_of slot) old
      → new.newest ≡ old.newest → Keeps (with slot may mays) new
  written slot may mays old new free kept honest leaves same newest =
      placed slot may mays old new kept honest leaves same (λ k e. still_newest slot may mays old.newest free kept.newest k (sym newest ∙ e))

  -- what may be left of a slot is as before
  pub placed_same : (slot : Slot) (mays : Mays) (new : StoreSlots D) → Keeps (with slot (at slot mays) mays) new → Keeps mays new
  placed_same First mays new kept = kept
  placed_same Second mays new kept = kept

  -- both were made
  pub made : (old new : StoreSlots D) → ((slot : Slot) → IsTrue (is_honest (disk_of slot old))) → MakesBoth is_honest state failures old new → Keeps no_checkpoints new
  made old new honest is = record {
    honest = λ slot. subst IsTrue (sym (is.each slot).honest) (honest slot);
    leaves = elim [ First ↦ made_slot (state new.first) ((is.each First).made (honest First)) | Second ↦ made_slot (state new.second) ((is.each Second).made (honest Second)) ];
    newest = λ slot e. absurd (none-some slot (sym is.newest ∙ e));
  }

  -- ---- a checkpoint is begun

  begun_at : (mays : Mays) (first : ℕ) (old : StoreSlots D) (new : Checkpointing D) → Keeps mays old → Begins is_honest state failures old first new
      → KeepsWriting is_honest state failures (or_none (next_slot old.newest) mays) first [] (checkpointing_with new.writer new.other old.newest new.owed)
  begun_at mays first old new kept b =
      let slot = next_slot old.newest in
      let honest = kept.honest slot in
      let still : IsTrue (is_honest new.writer.disk) = subst IsTrue (sym b.begun.honest) honest in
      let s = state new.writer.disk in
      let leaves = from_now (IsOneOf (None ∷ at slot mays)) _ s (b.begun.leaves honest (at slot mays) _ (kept.leaves slot)) in
      record {
        slots = written slot (None ∷ at slot mays) mays old (slots_with slot new.writer.disk new.other old.newest new.owed) (free old.newest) kept
            (subst (λ d. IsTrue (is_honest d)) (sym (with-this slot new.writer.disk new.other old.newest new.owed)) still)
            (subst (λ d. LeavesOneOf (None ∷ at slot mays) (state d)) (sym (with-this slot new.writer.disk new.other old.newest new.owed)) leaves)
            (with-other slot new.writer.disk new.other old.newest new.owed ∙ b.other)
            (with-newest slot new.writer.disk new.other old.newest new.owed);
        first_is = b.begun.first_is;
        writing = b.begun.writing honest;
        none = subst (λ may. In None may) (sym (at-with slot (None ∷ at slot mays) mays)) (inl refl);
      }

  pub begun : (mays : Mays) (first : ℕ) (old : StoreSlots D) (new : Checkpointing D) → Keeps mays old → Begins is_honest state failures old first new
      → KeepsWriting is_honest state failures (or_none (next_slot old.newest) mays) first [] new
  begun mays first old new kept b =
      subst (λ newest. KeepsWriting is_honest state failures (or_none (next_slot old.newest) mays) first [] (checkpointing_with new.writer new.other newest new.owed)) (sym b.newest)
      (begun_at mays first old new kept b)

  pub not_begun : (mays : Mays) (old new : StoreSlots D) → Keeps mays old → FailsToBeginIn is_honest state failures old new → Keeps (or_none (next_slot old.newest) mays) new
  not_begun mays old new kept b =
      let slot = next_slot old.newest in
      let honest = kept.honest slot in
      written slot (None ∷ at slot mays) mays old new (free old.newest) kept (subst IsTrue (sym b.fails.honest) honest)
      (from_now (IsOneOf (None ∷ at slot mays)) _ _ (b.fails.leaves honest (at slot mays) _ (kept.leaves slot))) b.other b.newest

  -- ---- pairs are added

  module _ (mays : Mays) (first : ℕ) (before : List TenantPair) (old : Checkpointing D) (kept : KeepsWriting is_honest state failures mays first before old) where
    abbrev slot : Slot
    slot = slot_of old

    -- the slots as they would be given up
    pub this_is : disk_of slot (given_up old) ≡ old.writer.disk
    this_is = with-this slot old.writer.disk old.other old.newest old.owed

    pub other_is : disk_of (other_of slot) (given_up old) ≡ old.other
    other_is = with-other slot old.writer.disk old.other old.newest old.owed

    newest_is : (given_up old).newest ≡ old.newest
    newest_is = with-newest slot old.writer.disk old.other old.newest old.owed

    pub honest_writer : IsTrue (is_honest old.writer.disk)
    honest_writer = subst (λ d. IsTrue (is_honest d)) this_is (kept.slots.honest slot)

    not_newest : (given_up old).newest ≡ Some slot → ⊥
    not_newest e = free old.newest (sym newest_is ∙ e)

    -- the slots after a call on the one that is written
    pub after : (may : List (Option Walk)) (new : StoreSlots D) → is_honest (disk_of slot new) ≡ is_honest old.writer.disk → LeavesOneOf may (state (disk_of slot new))
        → disk_of (other_of slot) new ≡ old.other → new.newest ≡ old.newest → Keeps (with slot may mays) new
    after may new honest leaves other newest =
        written slot may mays (given_up old) new not_newest kept.slots (subst IsTrue (sym honest) honest_writer) leaves (other ∙ sym other_is) (newest ∙ sym newest_is)

    -- while the gate is closed
    pub after_closed : (new : StoreSlots D) → is_honest (disk_of slot new) ≡ is_honest old.writer.disk → LeavesOnly IsClosed (state old.writer.disk) (state (disk_of slot new))
        → disk_of (other_of slot) new ≡ old.other → new.newest ≡ old.newest → Keeps mays new
    after_closed new honest closed other newest =
        let leaves = widened IsClosed (IsOneOf (at slot mays)) _ _ (λ image is. inl (kept.none, is)) closed in
        placed_same slot mays new (after (at slot mays) new honest (from_now (IsOneOf (at slot mays)) _ _ leaves) other newest)

  added_at : (mays : Mays) (first : ℕ) (before pairs : List TenantPair) (old new : Checkpointing D) → KeepsWriting is_honest state failures mays first before old
      → Adds is_honest state failures old pairs new → KeepsWriting is_honest state failures mays first (before ++ pairs) (checkpointing_with new.writer new.other old.newest new.owed)
  added_at mays first before pairs old new kept a =
      let honest = honest_writer mays first before old kept in
      let slot = slot_of old in
      let this = with-this slot new.writer.disk new.other old.newest new.owed in
      record {
        slots = after_closed mays first before old kept (slots_with slot new.writer.disk new.other old.newest new.owed)
            (ap is_honest this ∙ a.added.honest)
            (subst (λ d. LeavesOnly IsClosed (state old.writer.disk) (state d)) (sym this) (a.added.leaves honest before kept.writing))
            (with-other slot new.writer.disk new.other old.newest new.owed ∙ a.other)
            (with-newest slot new.writer.disk new.other old.newest new.owed);
        first_is = a.added.first_is ∙ kept.first_is;
        writing = a.added.writing honest before kept.writing;
        none = kept.none;
      }

  pub added : (mays : Mays) (first : ℕ) (before pairs : List TenantPair) (old new : Checkpointing D) → KeepsWriting is_honest state failures mays first before old
      → Adds is_honest state failures old pairs new → KeepsWriting is_honest state failures mays first (before ++ pairs) new
  added mays first before pairs old new kept a =
      subst (λ newest. KeepsWriting is_honest state failures mays first (before ++ pairs) (checkpointing_with new.writer new.other newest new.owed)) (sym a.newest)
      (added_at mays first before pairs old new kept a)
