-- A recovery reads both slots: each comes to rest with what was read of it, and the checkpoint that was used is the newest one.
use Rattle.std.proofs.{Common.{◌≡◌, ℕ, zero, suc, List, [], ◌∷◌, map, Option, Some, None, refl, sym, ap, subst, ◌∙◌, inl, inr}, lemmas.Option.same_Some}
use Rattle.std.specs.{Prelude.{slice_get, slice_set}, Option.option_map}
use Rattle.mt_disk.specs.{declared.mem.MemDisk.MemDisk, Mem.mem_state}
use Rattle.mt_checkpoint.specs.{declared.checkpoint.Checkpoint.Checkpoint, Checkpoints.{Walk, walk_of}}
use Rattle.mt_slots.specs.{declared.slot.Slot.Slot, declared.slot.Slot.TheVariants.{First, Second}, declared.store_slots.StoreSlots.StoreSlots}
use Rattle.mt_slots.specs.declared.fault.SlotFault.{SlotFault}
use Rattle.mt_checkpoint.specs.{declared.fault.FaultCause.FaultCause, declared.fault.FaultCause.TheVariants.{Device, Memory, NotAWalk, NotReadBack}}
use Rattle.mt_slots.specs.{Places.{Both, in_order, with_newest, refusal_for}, Calls.{ReadsBoth, StopsReading}, Keeps.{only_these, HasOneWalk, KeepsSlots}}
use Rattle.mt_slots.proofs.Settling.{both_read, among_these, not_read, kept_newest}
use Rattle.mt_crashes.specs.{Bases.{CheckpointView}, SlotDisks.{view_of_walk, slot_now, with_slot}}
use Rattle.mt_generations.specs.Chains.{Chain, IsUsedOver}
use Rattle.mt_crashes.specs.{Fronts.In, Stores.{Store, SlotNow, only_this, MayLeaveSlots}}
use Rattle.mt_crashes.proofs.{Members.no_some, SlotDisks.rests}
use Rattle.mt_recover.specs.Pairs.{view_of}
use Rattle.mt_store_logs.specs.Recovers.{slots_of, used_slot}
use Rattle.mt_lives.{specs.{Lives.IsMemoryOrDevice, Checks.SlotsStand, Holds.LeadsTo}, proofs.{Comes.{stays_here, one_more}, Flushing.{keeps_rules, failures_of}}}
use Rattle.mt_checkpoint.specs.Checkpoints as walks

-- ---- a slot was not read

pub told_fault : (cause : FaultCause) → IsMemoryOrDevice (refusal_for cause)
told_fault Device = inr refl
told_fault Memory = inl refl
told_fault NotAWalk = inr refl
told_fault NotReadBack = inr refl

pub stand_unread : (now : List SlotNow) (slots new : StoreSlots MemDisk) (fault : SlotFault) → SlotsStand now slots → StopsReading keeps_rules mem_state failures_of fault slots new
    → SlotsStand now new
stand_unread now slots new fault s stops = record { mays = s.mays; shown = s.shown; keeps = not_read keeps_rules mem_state failures_of s.mays slots new s.keeps fault stops }

-- ---- both were

-- a store with these slots
abbrev pub with_slots : List SlotNow → Store → Store
with_slots now s = record s { slots = now }

-- what was read, by its pairs
same_view : (x : Option Checkpoint) → option_map view_of_walk (option_map walk_of x) ≡ option_map view_of x
same_view None = refl
same_view (Some c) = refl

-- one of some walks is one of their views
in_views : (x : Option Walk) (may : List (Option Walk)) → walks.In x may → In (option_map view_of_walk x) (slot_now may)
in_views x [] at = absurd at
in_views x (y ∷ may) (inl e) = inl (ap (option_map view_of_walk) e)
in_views x (y ∷ may) (inr at) = inr (in_views x may at)

sure_shown : (both : Both (Option Checkpoint)) → map only_this (slots_of (in_order both)) ≡ map slot_now (in_order (only_these both))
sure_shown both =
    ap (λ x. (x ∷ []) ∷ (option_map view_of both.second ∷ []) ∷ []) (sym (same_view both.first))
    ∙ ap (λ x. (option_map view_of_walk (option_map walk_of both.first) ∷ []) ∷ (x ∷ []) ∷ []) (sym (same_view both.second))

-- each slot surely has what was read of it
pub record AreSure (s : Store) (slots : StoreSlots MemDisk) (both : Both (Option Checkpoint)) : Type 0 where
  pub left : MayLeaveSlots s.slots (slots_of (in_order both))
  pub leads : LeadsTo s (with_slots (map only_this (slots_of (in_order both))) s)
  pub keeps : KeepsSlots keeps_rules mem_state failures_of (only_these both) slots

-- so the slots stand
pub stand_sure : (both : Both (Option Checkpoint)) (slots : StoreSlots MemDisk) → KeepsSlots keeps_rules mem_state failures_of (only_these both) slots
    → SlotsStand (map only_this (slots_of (in_order both))) slots
stand_sure both slots keeps = record { mays = only_these both; shown = sure_shown both; keeps = keeps }

module _ (s : Store) (slots new : StoreSlots MemDisk) (both : Both (Option Checkpoint)) (stand : SlotsStand s.slots slots)
    (reads : ReadsBoth keeps_rules mem_state failures_of slots new both) where
  abbrev one : SlotNow
  one = slot_now (option_map walk_of both.first ∷ [])

  abbrev two : SlotNow
  two = slot_now (option_map walk_of both.second ∷ [])

  abbrev first_rests : Store
  first_rests = with_slot 0 one s

  both_rest : LeadsTo s (with_slot 1 two first_rests)
  both_rest =
      let was = stand.mays in
      let among = among_these keeps_rules mem_state failures_of was slots new stand.keeps both reads in
      let here = ap (λ ss. slice_get ss 0) stand.shown in
      let there = ap (λ ss. slice_get (slice_set ss 0 one) 1) stand.shown in
      one_more s first_rests (with_slot 1 two first_rests)
      (one_more s s first_rests (stays_here s s refl) (rests s 0 was.first here (option_map walk_of both.first) (among First)))
      (rests first_rests 1 was.second there (option_map walk_of both.second) (among Second))

  same_slots : slice_set (slice_set s.slots 0 one) 1 two ≡ map only_this (slots_of (in_order both))
  same_slots = ap (λ ss. slice_set (slice_set ss 0 one) 1 two) stand.shown ∙ sym (sure_shown both)

  -- a crash might have left what was read
  left_so : MayLeaveSlots s.slots (slots_of (in_order both))
  left_so =
      let was = stand.mays in
      let among = among_these keeps_rules mem_state failures_of was slots new stand.keeps both reads in
      subst (λ (ss : List SlotNow). MayLeaveSlots ss (slots_of (in_order both))) (sym stand.shown) (
        subst (λ x. In x (slot_now was.first)) (same_view both.first) (in_views (option_map walk_of both.first) was.first (among First)),
        (subst (λ x. In x (slot_now was.second)) (same_view both.second) (in_views (option_map walk_of both.second) was.second (among Second)), tt),
      )

  pub slots_rest : AreSure s new both
  slots_rest = record {
    left = left_so;
    leads = subst (λ ss. LeadsTo s (with_slots ss s)) same_slots both_rest;
    keeps = both_read keeps_rules mem_state failures_of stand.mays slots new stand.keeps both reads;
  }

-- ---- the checkpoint that was used

mapped : (x : Option Checkpoint) (v : CheckpointView) → option_map view_of x ≡ Some v → (c : Checkpoint) × (x ≡ Some c)
mapped None v is = absurd (no_some v is)
mapped (Some c) v is = (c, refl)

used_has : (chains : List Chain) (both : Both (Option Checkpoint)) (used : Option ℕ) (slot : Slot) → IsUsedOver chains (slots_of (in_order both)) used → used_slot used ≡ Some slot
    → HasOneWalk (only_these both) slot
used_has chains both None slot is same = absurd (no_some slot same)
used_has chains both (Some zero) slot is same =
    let c = mapped both.first is.0 (same_Some _ _ is.1) in
    subst (HasOneWalk (only_these both)) (same_Some First slot same) (walk_of c.0, ap (λ x. option_map walk_of x ∷ []) c.1)
used_has chains both (Some (suc zero)) slot is same =
    let c = mapped both.second is.0 (same_Some _ _ is.1) in
    subst (HasOneWalk (only_these both)) (same_Some Second slot same) (walk_of c.0, ap (λ x. option_map walk_of x ∷ []) c.1)
used_has chains both (Some (suc (suc n))) slot is same = absurd (no_some slot same)

-- it is the newest one from now on
pub stand_used : (chains : List Chain) (both : Both (Option Checkpoint)) (used : Option ℕ) (slots : StoreSlots MemDisk) → IsUsedOver chains (slots_of (in_order both)) used
    → KeepsSlots keeps_rules mem_state failures_of (only_these both) slots → SlotsStand (map only_this (slots_of (in_order both))) (with_newest (used_slot used) slots)
stand_used chains both used slots is keeps =
    stand_sure both (with_newest (used_slot used) slots)
    (kept_newest keeps_rules mem_state failures_of (only_these both) (used_slot used) slots keeps (λ slot same. used_has chains both used slot is same))
