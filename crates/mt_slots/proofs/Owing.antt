-- By which step the newest checkpoint ends, after each call.
use Rattle.std.proofs.{Common.{◌≡◌, inl, inr, ◌⊎◌, ℕ, ◌≤◌, Bool, List, [], ◌∷◌, Option, Some, None, refl, sym, ◌∙◌, subst}, lemmas.Option.same_Some, Math.Nat.le_refl}
use Rattle.mt_disk.specs.Disk.{DiskState}
use Rattle.mt_rows.specs.declared.record.TenantPair.{TenantPair}
use Rattle.mt_checkpoint.specs.Checkpoints.{Walk, In}
use Rattle.mt_slots.specs.{declared.slot.Slot.Slot, declared.store_slots.StoreSlots.StoreSlots}
use Rattle.mt_slots.specs.{declared.checkpointing.Checkpointing.Checkpointing, declared.fault.SlotFault.SlotFault}
use Rattle.mt_slots.specs.Places.{at, with, next_slot, with_newest, slot_of, given_up}
use Rattle.mt_slots.specs.Calls.{Begins, FailsToBeginIn, Adds, FailsToAddIn, Ends, FailsToEndIn, GivesUpIn}
use Rattle.mt_slots.specs.Keeps.{Mays, or_none, NewestEndsBy}
use Rattle.mt_slots.proofs.{Keeping.{at-with, other-with, with-newest, with-owed}, Settling.only_one}

-- what is written in the next slot isn't in that of the newest
beside : (newest : Option Slot) (slot : Slot) (may : List (Option Walk)) (mays : Mays) → newest ≡ Some slot → at slot (with (next_slot newest) may mays) ≡ at slot mays
beside newest slot may mays e = subst (λ n. at slot (with (next_slot n) may mays) ≡ at slot mays) (sym e) (other-with slot may mays)

module _ {D : Type 0} where
  -- a checkpoint that is given up leaves both as they were
  up_newest : (c : Checkpointing D) → (given_up c).newest ≡ c.newest
  up_newest c = with-newest (slot_of c) c.writer.disk c.other c.newest c.owed

  up_owed : (c : Checkpointing D) → (given_up c).owed ≡ c.owed
  up_owed c = with-owed (slot_of c) c.writer.disk c.other c.newest c.owed

  -- the newest, what it owes, and what its slot may have are as before
  stays : (mays more : Mays) (kept : ℕ) (old new : StoreSlots D) → NewestEndsBy mays kept old → new.newest ≡ old.newest → new.owed ≡ old.owed
      → ((slot : Slot) → old.newest ≡ Some slot → at slot more ≡ at slot mays) → NewestEndsBy more kept new
  stays mays more kept old new ends newest owed same slot w e is =
      let was = sym newest ∙ e in
      subst (λ n. (w.last ≤ kept) ⊎ (w.last ≤ n)) (sym owed) (ends slot w was (sym (same slot was) ∙ is))

  pub kept_ends : (mays : Mays) (kept : ℕ) (used : Option Slot) (old : StoreSlots D)
      → ((slot : Slot) (w : Walk) → used ≡ Some slot → at slot mays ≡ Some w ∷ [] → w.last ≤ kept) → NewestEndsBy mays kept (with_newest used old)
  kept_ends mays kept used old ends slot w e is = inl (ends slot w e is)

module _ {D : Type 0} (is_honest : D → Bool) (state : D → DiskState) (failures : D → ℕ) where
  pub begun_ends : (mays : Mays) (kept first : ℕ) (old : StoreSlots D) (new : Checkpointing D) → NewestEndsBy mays kept old → Begins is_honest state failures old first new
      → NewestEndsBy (or_none (next_slot old.newest) mays) kept (given_up new)
  begun_ends mays kept first old new ends b =
      stays mays (or_none (next_slot old.newest) mays) kept old (given_up new) ends (up_newest new ∙ b.newest) (up_owed new ∙ b.owed)
      (λ slot e. beside old.newest slot (None ∷ at (next_slot old.newest) mays) mays e)

  pub not_begun_ends : (mays : Mays) (kept : ℕ) (old new : StoreSlots D) → NewestEndsBy mays kept old → FailsToBeginIn is_honest state failures old new
      → NewestEndsBy (or_none (next_slot old.newest) mays) kept new
  not_begun_ends mays kept old new ends b =
      stays mays (or_none (next_slot old.newest) mays) kept old new ends b.newest b.owed (λ slot e. beside old.newest slot (None ∷ at (next_slot old.newest) mays) mays e)

  pub added_ends : (mays : Mays) (kept : ℕ) (pairs : List TenantPair) (old new : Checkpointing D) → NewestEndsBy mays kept (given_up old)
      → Adds is_honest state failures old pairs new → NewestEndsBy mays kept (given_up new)
  added_ends mays kept pairs old new ends a =
      stays mays mays kept (given_up old) (given_up new) ends (up_newest new ∙ a.newest ∙ sym (up_newest old)) (up_owed new ∙ a.owed ∙ sym (up_owed old)) (λ slot e. refl)

  pub not_added_ends : (mays : Mays) (kept : ℕ) (e : SlotFault) (old : Checkpointing D) (new : StoreSlots D) → NewestEndsBy mays kept (given_up old)
      → FailsToAddIn is_honest state failures e old new → NewestEndsBy mays kept new
  not_added_ends mays kept e old new ends a =
      stays mays mays kept (given_up old) new ends (a.newest ∙ sym (up_newest old)) (a.owed ∙ sym (up_owed old)) (λ slot e. refl)

  -- the walk that was ended is the one that its slot has
  pub ended_ends : (mays : Mays) (kept : ℕ) (w : Walk) (old : Checkpointing D) (new : StoreSlots D) → Ends is_honest state failures old w.last new
      → NewestEndsBy (with (slot_of old) (Some w ∷ []) mays) kept new
  ended_ends mays kept w old new ends slot v e is =
      let here = same_Some (slot_of old) slot (sym ends.newest ∙ e) in
      let has = subst (λ k. at k (with (slot_of old) (Some w ∷ []) mays) ≡ Some w ∷ []) here (at-with (slot_of old) (Some w ∷ []) mays) in
      let same : w ≡ v = same_Some w v (only_one (Some w) (Some v) (subst (λ may. In (Some w) may) (sym has ∙ is) (inl refl))) in
      inr (subst (λ n. v.last ≤ n) (sym ends.owed) (subst (λ (x : Walk). x.last ≤ w.last) same (le_refl w.last)))

  pub gave_up_ends : (mays : Mays) (kept : ℕ) (old : Checkpointing D) (new : StoreSlots D) → NewestEndsBy mays kept (given_up old)
      → GivesUpIn is_honest state failures old new → NewestEndsBy mays kept new
  gave_up_ends mays kept old new ends a =
      stays mays mays kept (given_up old) new ends (a.newest ∙ sym (up_newest old)) (a.owed ∙ sym (up_owed old)) (λ slot e. refl)

  pub not_ended_ends : (mays : Mays) (kept last : ℕ) (may : List (Option Walk)) (f : SlotFault) (old : Checkpointing D) (new : StoreSlots D) → NewestEndsBy mays kept (given_up old)
      → FailsToEndIn is_honest state failures f old last new → NewestEndsBy (with (slot_of old) may mays) kept new
  not_ended_ends mays kept last may f old new ends e =
      stays mays (with (slot_of old) may mays) kept (given_up old) new ends (e.newest ∙ sym (up_newest old)) (e.owed ∙ sym (up_owed old))
      (λ slot is. beside old.newest slot may mays (sym (up_newest old) ∙ is))
