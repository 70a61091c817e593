-- A failed add, an end, a reading and a crash: what is left of both slots after it.
use Rattle.std.proofs.{Common.{◌≡◌, inl, inr, ℕ, Bool, IsTrue, List, [], ◌∷◌, Option, Some, None, refl, sym, ◌∙◌, ap, subst}, lemmas.Option.none-some}
use Rattle.std.specs.Option.{option_map}
use Rattle.mt_rows.specs.{Rows.Bytes, declared.record.TenantPair.TenantPair}
use Rattle.mt_disk.specs.Disk.{DiskState}
use Rattle.mt_checkpoint.specs.{declared.checkpoint.Checkpoint.Checkpoint, Checkpoints.{Walk, IsWalk, walk_of, In, IsOneOf}}
use Rattle.mt_checkpoint.specs.{Slots.{HasDurably, SettlesOnSlot, ReadSlot, FailsToRead}, declared.fault.ReadFault.ReadFault, Faults.read_cause}
use Rattle.mt_checkpoint.proofs.Crash.{found_again, ended_slot}
use Rattle.mt_slots.specs.{declared.slot.Slot.Slot, declared.slot.Slot.TheVariants.{First, Second}, declared.fault.SlotFault.SlotFault}
use Rattle.mt_slots.specs.{declared.store_slots.StoreSlots.StoreSlots, declared.checkpointing.Checkpointing.Checkpointing}
use Rattle.mt_slots.specs.Places.{Both, at, with, other_of, disk_of, with_newest, slot_of, given_up}
use Rattle.mt_slots.specs.Calls.{StopsIn, ReadsBoth, StopsReading, FailsToAddIn, Ends, FailsToEndIn, GivesUpIn}
use Rattle.mt_slots.specs.Loads.{LoadsSlot, FailsToLoad}
use Rattle.mt_slots.specs.Keeps.{Mays, only_these, HasOneWalk, LeavesOneOf, KeepsSlots, KeepsWriting, IsCrashedTo}
use Rattle.mt_slots.proofs.Keeping.{from_now, now_newest, placed, other_is, honest_writer, after, after_closed}

pub only_one : (x y : Option Walk) → In x (y ∷ []) → x ≡ y
only_one x y (inl e) = e
only_one x y (inr none) = absurd none

only-at : (slot : Slot) (found : Both (Option Checkpoint)) → at slot (only_these found) ≡ option_map walk_of (at slot found) ∷ []
only-at First found = refl
only-at Second found = refl

abbrev starting : Walk → ℕ → Walk
starting w first = record w { first = first }

module _ {D : Type 0} (is_honest : D → Bool) (state : D → DiskState) (failures : D → ℕ) where
  abbrev Keeps : Mays → StoreSlots D → Type 0
  Keeps = KeepsSlots is_honest state failures

  abbrev KeepsIn : Mays → ℕ → List TenantPair → Checkpointing D → Type 0
  KeepsIn = KeepsWriting is_honest state failures

  -- ---- a failed add

  pub not_added : (mays : Mays) (first : ℕ) (before : List TenantPair) (e : SlotFault) (old : Checkpointing D) (new : StoreSlots D) → KeepsIn mays first before old
      → FailsToAddIn is_honest state failures e old new → Keeps mays new
  not_added mays first before e old new kept a =
      let honest = honest_writer is_honest state failures mays first before old kept in
      after_closed is_honest state failures mays first before old kept new a.fails.stops.gives_up.honest (a.fails.leaves honest before kept.writing) a.other a.newest

  pub gave_up : (mays : Mays) (first : ℕ) (before : List TenantPair) (old : Checkpointing D) (new : StoreSlots D) → KeepsIn mays first before old
      → GivesUpIn is_honest state failures old new → Keeps mays new
  gave_up mays first before old new kept a =
      let honest = honest_writer is_honest state failures mays first before old kept in
      after_closed is_honest state failures mays first before old kept new a.gives_up.honest (a.leaves honest before kept.writing) a.other a.newest

  -- ---- an end

  -- what was ended is a walk, from the writer's first step on
  walk_from : (mays : Mays) (w : Walk) (old : Checkpointing D) (new : StoreSlots D) → KeepsIn mays w.first w.pairs old → Ends is_honest state failures old w.last new
      → IsWalk (starting w old.writer.first)
  walk_from mays w old new kept e = e.ended.walk (honest_writer is_honest state failures mays w.first w.pairs old kept) w.pairs kept.writing

  pub ended_walk : (mays : Mays) (w : Walk) (old : Checkpointing D) (new : StoreSlots D) → KeepsIn mays w.first w.pairs old → Ends is_honest state failures old w.last new → IsWalk w
  ended_walk mays w old new kept e = subst (λ first. IsWalk (starting w first)) kept.first_is (walk_from mays w old new kept e)

  pub ended : (mays : Mays) (w : Walk) (old : Checkpointing D) (new : StoreSlots D) → KeepsIn mays w.first w.pairs old
      → Ends is_honest state failures old w.last new → Keeps (with (slot_of old) (Some w ∷ []) mays) new
  ended mays w old new kept e =
      let slot = slot_of old in
      let honest = honest_writer is_honest state failures mays w.first w.pairs old kept in
      let s = state (disk_of slot new) in
      let has = subst (λ first. HasDurably (starting w first) s) kept.first_is (e.ended.has honest w.pairs kept.writing (walk_from mays w old new kept e)) in
      placed is_honest state failures slot (Some w ∷ []) mays (given_up old) new kept.slots (subst IsTrue (sym e.ended.honest) honest) (ended_slot w s has)
      (e.other ∙ sym (other_is is_honest state failures mays w.first w.pairs old kept)) (λ k there. now_newest slot w mays k (sym e.newest ∙ there))

  pub not_ended : (mays : Mays) (w : Walk) (f : SlotFault) (old : Checkpointing D) (new : StoreSlots D) → KeepsIn mays w.first w.pairs old → IsWalk w
      → FailsToEndIn is_honest state failures f old w.last new → Keeps (with (slot_of old) (None ∷ Some w ∷ []) mays) new
  not_ended mays w f old new kept walk e =
      let slot = slot_of old in
      let honest = honest_writer is_honest state failures mays w.first w.pairs old kept in
      let s = state (disk_of slot new) in
      let both : Walk → List (Option Walk) = λ v. None ∷ Some v ∷ [] in
      let is = subst (λ first. IsWalk (starting w first)) (sym kept.first_is) walk in
      let leaves = from_now (IsOneOf (both (starting w old.writer.first))) _ s (e.fails.leaves honest w.pairs kept.writing is) in
      after is_honest state failures mays w.first w.pairs old kept (both w) new e.fails.stops.gives_up.honest (subst (λ first. LeavesOneOf (both (starting w first)) s) kept.first_is leaves) e.other e.newest

  -- ---- a reading

  module _ (mays : Mays) (old new : StoreSlots D) (kept : Keeps mays old) where
    module _ (found : Both (Option Checkpoint)) (is : ReadsBoth is_honest state failures old new found) where
      settled : (slot : Slot) → SettlesOnSlot (option_map walk_of (at slot found)) (at slot mays) (state (disk_of slot old)) (state (disk_of slot new))
      settled slot = (is.each slot).settles (kept.honest slot) (at slot mays) _ (kept.leaves slot)

      read_newest : (slot : Slot) → new.newest ≡ Some slot → HasOneWalk (only_these found) slot
      read_newest slot e =
          let was = kept.newest slot (sym is.newest ∙ e) in
          let same = only_one _ (Some was.0) (subst (λ may. In (option_map walk_of (at slot found)) may) was.1 (settled slot).among) in
          (was.0, only-at slot found ∙ ap (λ (x : Option Walk). x ∷ []) same)

      pub both_read : Keeps (only_these found) new
      both_read = record {
        honest = λ slot. subst IsTrue (sym (is.each slot).honest) (kept.honest slot);
        leaves = λ slot. subst (λ may. LeavesOneOf may (state (disk_of slot new))) (sym (only-at slot found)) (settled slot).now;
        newest = read_newest;
      }

      pub among_these : (slot : Slot) → In (option_map walk_of (at slot found)) (at slot mays)
      among_these slot = (settled slot).among

    abbrev Stays : Slot → Type 0
    Stays slot = IsTrue (is_honest (disk_of slot new)) × LeavesOneOf (at slot mays) (state (disk_of slot new))

    -- a slot that was read, or not, may be left as before
    read_stays : (slot : Slot) (x : Option Checkpoint) → ReadSlot is_honest state failures (disk_of slot old) (disk_of slot new) x → Stays slot
    read_stays slot x is = (subst IsTrue (sym is.honest) (kept.honest slot), from_now _ _ _ (is.settles (kept.honest slot) (at slot mays) _ (kept.leaves slot)).leaves)

    fails_stays : (slot : Slot) (fault : ReadFault) → FailsToRead is_honest state failures (disk_of slot old) (disk_of slot new) fault → Stays slot
    fails_stays slot fault is = (subst IsTrue (sym is.honest) (kept.honest slot), from_now _ _ _ (is.leaves (kept.honest slot) (at slot mays) _ (kept.leaves slot)))

    same_stays : (slot : Slot) → disk_of slot new ≡ disk_of slot old → Stays slot
    same_stays slot same = subst (λ d. IsTrue (is_honest d) × LeavesOneOf (at slot mays) (state d)) (sym same) (kept.honest slot, kept.leaves slot)

    both_stay : Stays First → Stays Second → new.newest ≡ old.newest → Keeps mays new
    both_stay first second newest = record {
      honest = elim [ First ↦ first.0 | Second ↦ second.0 ];
      leaves = elim [ First ↦ first.1 | Second ↦ second.1 ];
      newest = λ slot e. kept.newest slot (sym newest ∙ e);
    }

    -- one of them with the other as it was
    one_stays : (slot : Slot) → Stays slot → disk_of (other_of slot) new ≡ disk_of (other_of slot) old → new.newest ≡ old.newest → Keeps mays new
    one_stays First stays other newest = both_stay stays (same_stays Second other) newest
    one_stays Second stays other newest = both_stay (same_stays First other) stays newest

    pub not_read : (e : SlotFault) → StopsReading is_honest state failures e old new → Keeps mays new
    not_read e stops = by e.slot stops.stops
      where
        by : (slot : Slot) → StopsIn is_honest state failures (λ old new. (x : Option Checkpoint) × ReadSlot is_honest state failures old new x)
            (λ old new. (fault : ReadFault) × (e.cause ≡ read_cause fault) × FailsToRead is_honest state failures old new fault) slot old new → Keeps mays new
        by First s = one_stays First (fails_stays First s.0.0 s.0.2) s.1 stops.newest
        by Second s = both_stay (read_stays First s.0.0 s.0.1) (fails_stays Second s.1.0 s.1.2) stops.newest

    pub loaded : (slot : Slot) (x : Option Checkpoint) → LoadsSlot is_honest state failures slot old new x → Keeps mays new
    loaded slot x l = one_stays slot (read_stays slot x l.read) l.other l.newest

    pub not_loaded : (slot : Slot) (e : SlotFault) → FailsToLoad is_honest state failures slot e old new → Keeps mays new
    not_loaded slot e l = one_stays slot (fails_stays slot l.fails.1.0 l.fails.1.2) l.other l.newest

  -- what was seen is loaded
  pub loaded_so : (found : Both (Option Checkpoint)) (slot : Slot) (old new : StoreSlots D) (x : Option Checkpoint) → Keeps (only_these found) old
      → LoadsSlot is_honest state failures slot old new x → option_map walk_of x ≡ option_map walk_of (at slot found)
  loaded_so found slot old new x kept l =
      let may = at slot (only_these found) in
      only_one _ _ (subst (λ m. In (option_map walk_of x) m) (only-at slot found) (l.read.settles (kept.honest slot) may _ (kept.leaves slot)).among)

  -- ---- which one is the newest

  pub kept_newest : (mays : Mays) (used : Option Slot) (old : StoreSlots D) → Keeps mays old → ((slot : Slot) → used ≡ Some slot → HasOneWalk mays slot) → Keeps mays (with_newest used old)
  kept_newest mays used old kept newest = record {
    honest = elim [ First ↦ kept.honest First | Second ↦ kept.honest Second ];
    leaves = elim [ First ↦ kept.leaves First | Second ↦ kept.leaves Second ];
    newest = newest;
  }

  -- ---- a crash

  pub crashed : (mays : Mays) (images : Both Bytes) (old new : StoreSlots D) → Keeps mays old → IsCrashedTo is_honest state failures images old new → Keeps mays new
  crashed mays images old new kept is = record {
    honest = is.honest;
    leaves = λ slot. subst (λ s. LeavesOneOf (at slot mays) s) (sym (is.found slot))
        (found_again (IsOneOf (at slot mays)) (at slot images) ((kept.leaves slot).now (at slot images) (is.left slot)));
    newest = λ slot e. absurd (none-some slot (sym is.newest ∙ e));
  }
