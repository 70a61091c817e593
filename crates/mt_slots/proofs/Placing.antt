-- What a call made of one slot's disk, put back beside the other one.
use Rattle.std.proofs.{Common.{◌≡◌, ℕ, Bool, Option, Some, Result, IfOk, IfErr, sym, ◌∙◌, ap, subst}, lemmas.Result.{IfOk-weaker, IfErr-weaker}}
use Rattle.mt_disk.specs.{Disk.{DiskState}, declared.disk.DeviceFailed.DeviceFailed}
use Rattle.mt_checkpoint.specs.{declared.checkpoint.Checkpoint.Checkpoint, Slots.ReadSlot, Writes.{LeavesClosed, GivesUp, FailsToBegin, Ended}}
use Rattle.mt_slots.specs.{declared.slot.Slot.Slot, declared.fault.SlotFault.SlotFault, declared.store_slots.StoreSlots.StoreSlots, declared.checkpointing.Checkpointing.Checkpointing}
use Rattle.mt_slots.specs.{Places.{other_of, next_slot, disk_of, slots_with, slot_of}, Calls.{FailsToBeginIn, Ends, GivesUpIn}, Loads.{FailsToReadIn, LoadsSlot, FailsToLoad}}
use Rattle.mt_slots.proofs.Keeping.{with-this, with-other, with-newest, with-owed}

module _ {D : Type 0} (is_honest : D → Bool) (state : D → DiskState) (failures : D → ℕ) where
  pub not_begun_in : (old new : StoreSlots D) (slot : Slot) (was disk other : D) → slot ≡ next_slot old.newest → was ≡ disk_of slot old → other ≡ disk_of (other_of slot) old
      → new ≡ slots_with slot disk other old.newest old.owed → FailsToBegin is_honest state failures was disk → FailsToBeginIn is_honest state failures old new
  not_begun_in old new slot was disk other here is beside made fails =
      let this = ap (disk_of slot) made ∙ with-this slot disk other old.newest old.owed in
      let rest = ap (disk_of (other_of slot)) made ∙ with-other slot disk other old.newest old.owed in
      record {
        fails = subst (λ k. FailsToBegin is_honest state failures (disk_of k old) (disk_of k new)) here
            (subst (λ d. FailsToBegin is_honest state failures (disk_of slot old) d) (sym this)
            (subst (λ d. FailsToBegin is_honest state failures d disk) is fails));
        other = subst (λ k. disk_of (other_of k) new ≡ disk_of (other_of k) old) here (rest ∙ beside);
        newest = ap (λ (s : StoreSlots D). s.newest) made ∙ with-newest slot disk other old.newest old.owed;
        owed = ap (λ (s : StoreSlots D). s.owed) made ∙ with-owed slot disk other old.newest old.owed;
      }

  pub ended_in : (old : Checkpointing D) (last : ℕ) (new : StoreSlots D) (slot : Slot) (disk : D) → slot ≡ slot_of old
      → new ≡ slots_with slot disk old.other (Some slot) last → Ended is_honest state failures old.writer last disk → Ends is_honest state failures old last new
  ended_in old last new slot disk here made ended =
      let this = ap (disk_of slot) made ∙ with-this slot disk old.other (Some slot) last in
      record {
        ended = subst (λ k. Ended is_honest state failures old.writer last (disk_of k new)) here
            (subst (λ d. Ended is_honest state failures old.writer last d) (sym this) ended);
        other = subst (λ k. disk_of (other_of k) new ≡ old.other) here (ap (disk_of (other_of slot)) made ∙ with-other slot disk old.other (Some slot) last);
        newest = ap (λ (s : StoreSlots D). s.newest) made ∙ with-newest slot disk old.other (Some slot) last ∙ ap Some here;
        owed = ap (λ (s : StoreSlots D). s.owed) made ∙ with-owed slot disk old.other (Some slot) last;
      }

  pub gave_up_in : (old : Checkpointing D) (new : StoreSlots D) (slot : Slot) (disk : D) (cut : Result (Unit {0}) DeviceFailed) → slot ≡ slot_of old
      → new ≡ slots_with slot disk old.other old.newest old.owed
      → GivesUp is_honest state failures old.writer (failures old.writer.disk) cut disk × LeavesClosed is_honest state failures old.writer disk → GivesUpIn is_honest state failures old new
  gave_up_in old new slot disk cut here made gives =
      let this = ap (disk_of slot) made ∙ with-this slot disk old.other old.newest old.owed in
      let there : disk ≡ disk_of (slot_of old) new = sym this ∙ ap (λ k. disk_of k new) here in
      record {
        cut = cut;
        gives_up = subst (GivesUp is_honest state failures old.writer (failures old.writer.disk) cut) there gives.0;
        leaves = subst (LeavesClosed is_honest state failures old.writer) there gives.1;
        other = subst (λ k. disk_of (other_of k) new ≡ old.other) here (ap (disk_of (other_of slot)) made ∙ with-other slot disk old.other old.newest old.owed);
        newest = ap (λ (s : StoreSlots D). s.newest) made ∙ with-newest slot disk old.other old.newest old.owed;
        owed = ap (λ (s : StoreSlots D). s.owed) made ∙ with-owed slot disk old.other old.newest old.owed;
      }

  -- one slot's disk was read, or was not, and nothing else has changed
  module _ (named slot : Slot) (here : named ≡ slot) (old new : StoreSlots D) (r : Result (Option Checkpoint) SlotFault) (other : disk_of (other_of slot) new ≡ disk_of (other_of slot) old)
      (newest : new.newest ≡ old.newest) (owed : new.owed ≡ old.owed) where
    pub loaded_in : IfOk r (ReadSlot is_honest state failures (disk_of slot old) (disk_of slot new)) → IfOk r (LoadsSlot is_honest state failures named old new)
    loaded_in read = subst (λ k. IfOk r (LoadsSlot is_honest state failures k old new)) (sym here)
        (IfOk-weaker r (ReadSlot is_honest state failures (disk_of slot old) (disk_of slot new)) (LoadsSlot is_honest state failures slot old new)
        (λ x is. record { read = is; other = other; newest = newest; owed = owed }) read)

    pub not_loaded_in : IfErr r (FailsToReadIn is_honest state failures named (disk_of slot old) (disk_of slot new)) → IfErr r (λ e. FailsToLoad is_honest state failures named e old new)
    not_loaded_in fails =
        subst (λ k. IfErr r (FailsToReadIn is_honest state failures k (disk_of slot old) (disk_of slot new)) → IfErr r (λ e. FailsToLoad is_honest state failures k e old new)) (sym here)
        (IfErr-weaker r (FailsToReadIn is_honest state failures slot (disk_of slot old) (disk_of slot new)) (λ e. FailsToLoad is_honest state failures slot e old new)
        (λ e is. record { fails = is; other = other; newest = newest; owed = owed })) fails
