-- What was given up keeps its base, whatever happens to a store but a write to the base's slot.
use Rattle.std.proofs.Common.{◌≡◌, ◌⊎◌, inl, inr, ⊎_elim, ℕ, zero, suc, ◌<◌, ◌≤◌, Bool, true, false, List, [], ◌∷◌, map, length, refl, sym, ◌∙◌, ap, subst, arith, Option, Some, None, Result, Ok, Err}
use Rattle.std.proofs.lemmas.{Bool.{true≢false, cases_lt}, Option.same_Some}
use Rattle.std.specs.{Prelude.slice_get, List.AllZip}
use Rattle.mt_log.specs.Contents.{Contents}
use Rattle.mt_disk.specs.declared.mem.MemDisk.{MemDisk}
use Rattle.mt_crashes.specs.{Fronts.{In, Numbers, cutoff_of, is_void}, Bases.{CheckpointView, Slots}, Recoveries.resume_of}
use Rattle.mt_crashes.specs.SlotDisks.{view_of_walk, slot_now}
use Rattle.mt_crashes.specs.Stores.{Store, SlotNow, only_this, at_rest as log_at_rest, new_store, MayLeaveSlots, Happens, Leads, AllReach}
use Rattle.mt_crashes.specs.Invariants.{IsStore}
use Rattle.mt_crashes.proofs.{Members.no_some, FrontLaws.void_cases, NewStore.new_is, Kept.{leads, reaches_ever}}
use Rattle.mt_generations.{specs.{Chains.{Chain, EndsLog, BeginBy, HasUse, IsUsedOver}, Turns.{IsSettledIn, HasBase}}, proofs.{Settled.{at_rest_left, used_settles}, Whole.least_reached}}
use Rattle.mt_checkpoint.specs.{declared.checkpoint.Checkpoint.Checkpoint, Checkpoints.Walk}
use Rattle.mt_slots.specs.{declared.slot.Slot.Slot, declared.slot.Slot.TheVariants.{First, Second}, declared.store_slots.StoreSlots.StoreSlots, Keeps.Mays}
use Rattle.mt_slots.specs.{declared.checkpointing.Checkpointing.Checkpointing, Places.{Both, with, in_order, number_of, other_of, next_slot, slots_with, slot_of, given_up}}
use Rattle.mt_store_logs.specs.Recovers.{slots_of, used_slot}
use Rattle.mt_lives.specs.{declared.live_slots.LiveSlots.LiveSlots, declared.live_slots.LiveSlots.TheVariants.{Rest, Turns, Writes, Away}, declared.live_slots.Check.Check}
use Rattle.mt_lives.specs.{declared.live_slots.TurnStage.TurnStage, declared.live_slots.TurnStage.TheVariants.{Begins, Settles, GivesUp}, declared.serving.Settle.Settle}
use Rattle.mt_lives.specs.{Lives.{Life, Past}, Bases.{IsWritten, NewestIsBase, EitherIsBase}, Turning.{Turning, IsSettling, IsAtLog, IsWriting, IsTurning, StandsOnBase}}
use Rattle.mt_lives.specs.{Checks.at_rest, Holds.{HasCome, LeadsTo}}

-- ---- a number that every log goes by is never void

void_stays : (to : ℕ) (old new : Store) → IsStore old → Happens old new → AllReach to old → is_void old.voids to ≡ false → is_void new.voids to ≡ false
void_stays to old new is (inl h) reach live = ap (λ (s : Store). is_void s.voids to) h.stands ∙ live
void_stays to old new is (inr (inl h)) reach live = ap (λ (s : Store). is_void s.voids to) h.stands ∙ live
void_stays to old new is (inr (inr (inl h))) reach live = ap (λ (s : Store). is_void s.voids to) h.stands ∙ live
void_stays to old new is (inr (inr (inr (inl h)))) reach live = ap (λ (s : Store). is_void s.voids to) h.stands ∙ live
void_stays to old new is (inr (inr (inr (inr (inl h))))) reach live =
    ap (λ (s : Store). is_void s.voids to) h.stands ∙ still (is_void ((cutoff_of h.fronts, resume_of h.fronts h.read) ∷ old.voids) to) refl
  where
    upto_cutoff : to ≤ cutoff_of h.fronts
    upto_cutoff = least_reached to old h.fronts is reach (at_rest_left old h.fronts h.rest)

    still : (v : Bool) → is_void ((cutoff_of h.fronts, resume_of h.fronts h.read) ∷ old.voids) to ≡ v
        → is_void ((cutoff_of h.fronts, resume_of h.fronts h.read) ∷ old.voids) to ≡ false
    still false e = e
    still true e = absurd (⊎_elim (λ l. omega (arith, l.0, upto_cutoff)) (λ r. true≢false (sym r ∙ live))
        (void_cases (cutoff_of h.fronts) (resume_of h.fronts h.read) to old.voids e))
void_stays to old new is (inr (inr (inr (inr (inr (inl h)))))) reach live = ap (λ (s : Store). is_void s.voids to) h.stands ∙ live
void_stays to old new is (inr (inr (inr (inr (inr (inr (inl h))))))) reach live = ap (λ (s : Store). is_void s.voids to) h.stands ∙ live
void_stays to old new is (inr (inr (inr (inr (inr (inr (inr h))))))) reach live = ap (λ (s : Store). is_void s.voids to) h.stands ∙ live

void_ever : (n to : ℕ) (s t : Store) → IsStore s → Leads n s t → AllReach to s → is_void s.voids to ≡ false → is_void t.voids to ≡ false
void_ever zero to s t is same reach live = ap (λ (x : Store). is_void x.voids to) same ∙ live
void_ever (suc n) to s t is l reach live =
    let one : Leads 1 s l.0 = (l.0, l.1, refl) in
    void_ever n to l.0 t (leads 1 s l.0 is one) l.2 (λ worker. reaches_ever 1 to worker s l.0 is one (reach worker)) (void_stays to s l.0 is l.1 reach live)

-- ---- a base stays

pub is_come : (count : ℕ) (s : Store) → 0 < count → count ≤ 64 → HasCome count s → IsStore s
is_come count s some few come = leads come.0 (new_store count) s (new_is count some few) come.1

pub settled_stays : (starts k : ℕ) (c : CheckpointView) (s t : Store) → IsStore s → LeadsTo s t → slice_get t.slots k ≡ slice_get s.slots k → IsSettledIn s starts k c
    → IsSettledIn t starts k c
settled_stays starts k c s t is l same b = record {
  stands = same ∙ b.stands;
  covers = b.covers;
  live = void_ever l.0 c.to s t is l.1 b.settled b.live;
  settled = λ worker. reaches_ever l.0 c.to worker s t is l.1 (b.settled worker);
}

-- while both slots stay
pub base_stays : (starts : ℕ) (s t : Store) → IsStore s → LeadsTo s t → t.slots ≡ s.slots → HasBase s starts → HasBase t starts
base_stays starts s t is l same (inl none) = inl none
base_stays starts s t is l same (inr b) =
    inr (b.0, b.1, settled_stays starts b.0 b.1 s t is l (ap (λ (ss : List SlotNow). slice_get ss b.0) same) b.2)

-- while the newest one does
pub newest_stays : (newest : Option Slot) (starts : ℕ) (s t : Store) → IsStore s → LeadsTo s t
    → ((slot : Slot) → newest ≡ Some slot → slice_get t.slots (number_of slot) ≡ slice_get s.slots (number_of slot)) → NewestIsBase newest s starts → NewestIsBase newest t starts
newest_stays newest starts s t is l same (inl none) = inl none
newest_stays newest starts s t is l same (inr b) = inr (b.0, b.1, b.2, settled_stays starts (number_of b.0) b.1 s t is l (same b.0 b.2) b.3)

-- one that is not settled does too, if nothing became void
written_stays : (starts k : ℕ) (c : CheckpointView) (s t : Store) → slice_get t.slots k ≡ slice_get s.slots k → t.voids ≡ s.voids → IsWritten s starts k c → IsWritten t starts k c
written_stays starts k c s t same voids w = record {
  stands = same ∙ w.stands;
  covers = w.covers;
  live = ap (λ (v : List Numbers). is_void v c.to) voids ∙ w.live;
}

-- ---- what holds in a turn stays while the slots do

-- a step of the store that is none of the slots', and no recovery
record Keeps (s t : Store) : Type 0 where
  is : IsStore s
  leads : LeadsTo s t
  slots : t.slots ≡ s.slots
  voids : t.voids ≡ s.voids
  reached : t.reached ≡ s.reached
  logs : length t.logs ≡ length s.logs

module _ (s t : Store) (keeps : Keeps s t) where
  same_slot : (k : ℕ) → slice_get t.slots k ≡ slice_get s.slots k
  same_slot k = ap (λ (ss : List SlotNow). slice_get ss k) keeps.slots

  newest_keeps : (newest : Option Slot) (starts : ℕ) → NewestIsBase newest s starts → NewestIsBase newest t starts
  newest_keeps newest starts b = newest_stays newest starts s t keeps.is keeps.leads (λ slot at. same_slot (number_of slot)) b

  either_keeps : (newest : Option Slot) (owed starts : ℕ) → EitherIsBase newest owed s starts → EitherIsBase newest owed t starts
  either_keeps newest owed starts (inl b) = inl (newest_keeps newest starts b)
  either_keeps newest owed starts (inr o) = inr (record {
    slot = o.slot;
    at = o.at;
    written = o.written;
    stands = written_stays starts (number_of o.slot) o.written s t (same_slot (number_of o.slot)) keeps.voids o.stands;
    owes = o.owes;
    base = o.base;
    settled = settled_stays starts (number_of (other_of o.slot)) o.base s t keeps.is keeps.leads (same_slot (number_of (other_of o.slot))) o.settled;
  })

  settling_keeps : (turning : Turning) (newest : Option Slot) (settle : Settle) → IsSettling turning newest s settle → IsSettling turning newest t settle
  settling_keeps turning newest settle w = record {
    slot = w.slot;
    at = w.at;
    written = w.written;
    begun = record { all = omega (arith, w.begun.all, keeps.logs); starts = w.begun.starts };
    stands = written_stays turning.starts (number_of w.slot) w.written s t (same_slot (number_of w.slot)) keeps.voids w.stands;
    least = w.least;
    next = omega (arith, w.next, keeps.logs);
    before = λ worker under. reaches_ever keeps.leads.0 settle.least worker s t keeps.is keeps.leads.1 (w.before worker under);
  }

  at_log_keeps : (g : ℕ) (turning : Turning) (slots : StoreSlots MemDisk) (stage : TurnStage) → IsAtLog g turning slots s stage → IsAtLog g turning slots t stage
  at_log_keeps g turning slots (Begins log) b = (b.0, omega (arith, b.1, keeps.logs), newest_keeps slots.newest turning.whole.starts b.2)
  at_log_keeps g turning slots (Settles settle) b = (settling_keeps turning slots.newest settle b.0, either_keeps slots.newest slots.owed turning.whole.starts b.1)
  at_log_keeps g turning slots (GivesUp log) b = (b.0, b.1, omega (arith, b.2, keeps.logs), newest_keeps slots.newest turning.whole.starts b.3)

  writing_keeps : (turning : Turning) (check : Check) → IsWriting turning s check → IsWriting turning t check
  writing_keeps turning check w = record {
    begun = record { all = omega (arith, w.begun.all, keeps.logs); starts = w.begun.starts };
    covers = w.covers;
    reached = omega (arith, w.reached, keeps.reached);
    base = newest_keeps check.writing.newest turning.whole.starts w.base;
  }

  turning_keeps : (g : ℕ) (turning : Turning) (slots : LiveSlots) → IsTurning g turning slots s → IsTurning g turning slots t
  turning_keeps g turning (Rest slots) b = either_keeps slots.newest slots.owed turning.whole.starts b
  turning_keeps g turning (Turns turn) b = at_log_keeps g turning turn.slots turn.stage b
  turning_keeps g turning (Writes check) b = writing_keeps turning check b
  turning_keeps g turning Away b = absurd b

pub turning_stays : (g : ℕ) (turning : Turning) (slots : LiveSlots) (s t : Store) → IsStore s → LeadsTo s t → t.slots ≡ s.slots → t.voids ≡ s.voids → t.reached ≡ s.reached
    → length t.logs ≡ length s.logs → IsTurning g turning slots s → IsTurning g turning slots t
turning_stays g turning slots s t is l same voids reached logs b =
    turning_keeps s t (record { is = is; leads = l; slots = same; voids = voids; reached = reached; logs = logs }) g turning slots b

pub stands_stay : (now : Result Life Past) (g : ℕ) (turning : Turning) (slots : LiveSlots) (s t : Store) → IsStore s → LeadsTo s t → t.slots ≡ s.slots → t.voids ≡ s.voids
    → t.reached ≡ s.reached → length t.logs ≡ length s.logs → s.steps ≤ t.steps → StandsOnBase now g turning slots s → StandsOnBase now g turning slots t
stands_stay (Ok life) g turning slots s t is l same voids reached logs later b =
    let starts = b.0 in
    (omega (arith, starts, later), turning_stays g turning slots s t is l same voids reached logs b.1)
stands_stay (Err past) g turning slots s t is l same voids reached logs later b = base_stays turning.whole.starts s t is l same b

-- ---- a crash, and both slots read

pub some_base : (newest : Option Slot) (s : Store) (starts : ℕ) → NewestIsBase newest s starts → HasBase s starts
some_base newest s starts (inl none) = inl none
some_base newest s starts (inr b) = inr (number_of b.0, b.1, b.3)

either_base : (newest : Option Slot) (owed : ℕ) (s : Store) (starts : ℕ) → EitherIsBase newest owed s starts → HasBase s starts
either_base newest owed s starts (inl b) = some_base newest s starts b
either_base newest owed s starts (inr o) = inr (number_of (other_of o.slot), o.base, o.settled)

-- at each log the base is the newest checkpoint, or the one before it
either_at : (g : ℕ) (turning : Turning) (slots : StoreSlots MemDisk) (s : Store) (stage : TurnStage) → IsAtLog g turning slots s stage
    → EitherIsBase slots.newest slots.owed s turning.whole.starts
either_at g turning slots s (Begins log) b = inl b.2
either_at g turning slots s (Settles settle) b = b.1
either_at g turning slots s (GivesUp log) b = inl b.3

base_of : (g : ℕ) (turning : Turning) (slots : LiveSlots) (s : Store) → IsTurning g turning slots s → HasBase s turning.whole.starts
base_of g turning (Rest slots) s b = either_base slots.newest slots.owed s turning.whole.starts b
base_of g turning (Turns turn) s b = either_base turn.slots.newest turn.slots.owed s turning.whole.starts (either_at g turning turn.slots s turn.stage b)
base_of g turning (Writes check) s b = some_base check.writing.newest s turning.whole.starts b.base
base_of g turning Away s b = absurd b

pub base_left : (now : Result Life Past) (g : ℕ) (turning : Turning) (slots : LiveSlots) (s : Store) → StandsOnBase now g turning slots s → HasBase s turning.whole.starts
base_left (Ok life) g turning slots s b = base_of g turning slots s b.1
base_left (Err past) g turning slots s b = b

only_one : (x : Option CheckpointView) (c : CheckpointView) → In x (only_this (Some c)) → x ≡ Some c
only_one x c (inl same) = same
only_one x c (inr none) = absurd none

-- what was read of a slot that surely has a checkpoint is that
pub read_only : (slots : List SlotNow) (read : Slots) (k : ℕ) (c : CheckpointView) → MayLeaveSlots slots read → slice_get slots k ≡ Some (only_this (Some c))
    → slice_get (map only_this read) k ≡ Some (only_this (Some c))
read_only [] [] k c left there = absurd (no_some (only_this (Some c)) there)
read_only [] (x ∷ read) k c left there = absurd left
read_only (now ∷ slots) [] k c left there = absurd left
read_only (now ∷ slots) (x ∷ read) zero c left there =
    ap (λ y. Some (only_this y)) (only_one x c (subst (λ (z : SlotNow). In x z) (same_Some now (only_this (Some c)) there) left.0))
read_only (now ∷ slots) (x ∷ read) (suc k) c left there = read_only slots read k c left.1 there

pub base_read : (starts : ℕ) (s t : Store) (read : Slots) → IsStore s → LeadsTo s t → MayLeaveSlots s.slots read → t.slots ≡ map only_this read → HasBase s starts → HasBase t starts
base_read starts s t read is l left same (inl none) = inl none
base_read starts s t read is l left same (inr b) = inr (
  b.0,
  b.1,
  settled_stays starts b.0 b.1 s t is l
      (ap (λ (ss : List SlotNow). slice_get ss b.0) same ∙ read_only s.slots read b.0 b.1 left b.2.stands ∙ sym b.2.stands) b.2,
)

-- ---- a turn that is made is given up, with the checkpoint that is being written

newest_with : (slot : Slot) (disk other : MemDisk) (newest : Option Slot) (owed : ℕ) → (slots_with slot disk other newest owed).newest ≡ newest
newest_with First disk other newest owed = refl
newest_with Second disk other newest owed = refl

pub newest_given_up : (writing : Checkpointing MemDisk) → (given_up writing).newest ≡ writing.newest
newest_given_up writing = newest_with (slot_of writing) writing.writer.disk writing.other writing.newest writing.owed

rested : (g : ℕ) (turning : Turning) (slots : LiveSlots) (s : Store) → IsTurning g turning slots s → IsTurning g turning (at_rest slots) s
rested g turning (Rest slots) s b = b
rested g turning (Turns turn) s b = either_at g turning turn.slots s turn.stage b
rested g turning (Writes check) s b =
    inl (subst (λ (n : Option Slot). NewestIsBase n s turning.whole.starts) (sym (newest_given_up check.writing)) b.base)
rested g turning Away s b = b

pub turning_rests : (g : ℕ) (turning : Turning) (slots : LiveSlots) (was : StoreSlots MemDisk) (s : Store) → at_rest slots ≡ Rest was → IsTurning g turning slots s
    → IsTurning g turning (Rest was) s
turning_rests g turning slots was s rests b = subst (λ (l : LiveSlots). IsTurning g turning l s) rests (rested g turning slots s b)

pub base_rests : (now : Result Life Past) (g : ℕ) (turning : Turning) (slots : LiveSlots) (was : StoreSlots MemDisk) (s : Store) → at_rest slots ≡ Rest was
    → StandsOnBase now g turning slots s → StandsOnBase now g turning (Rest was) s
base_rests (Ok life) g turning slots was s rests b = (b.0, turning_rests g turning slots was s rests b.1)
base_rests (Err past) g turning slots was s rests b = b

-- ---- a checkpoint is written in the other slot

other_kept : (mays : Mays) (may : List (Option Walk)) (slot : Slot)
    → slice_get (map slot_now (in_order (with (other_of slot) may mays))) (number_of slot) ≡ slice_get (map slot_now (in_order mays)) (number_of slot)
other_kept mays may First = refl
other_kept mays may Second = refl

pub written_elsewhere : (newest : Option Slot) (starts : ℕ) (s t : Store) (mays : Mays) (may : List (Option Walk)) → IsStore s → LeadsTo s t → s.slots ≡ map slot_now (in_order mays)
    → t.slots ≡ map slot_now (in_order (with (next_slot newest) may mays)) → NewestIsBase newest s starts → NewestIsBase newest t starts
written_elsewhere newest starts s t mays may is l was now b = newest_stays newest starts s t is l same b
  where
    same : (slot : Slot) → newest ≡ Some slot → slice_get t.slots (number_of slot) ≡ slice_get s.slots (number_of slot)
    same slot at =
        ap (λ (ss : List SlotNow). slice_get ss (number_of slot)) now
        ∙ ap (λ (n : Option Slot). slice_get (map slot_now (in_order (with (next_slot n) may mays))) (number_of slot)) at
        ∙ other_kept mays may slot
        ∙ ap (λ (ss : List SlotNow). slice_get ss (number_of slot)) (sym was)

-- ---- a checkpoint ends, and is settled later

set_slot : (mays : Mays) (may : List (Option Walk)) (slot : Slot) → slice_get (map slot_now (in_order (with slot may mays))) (number_of slot) ≡ Some (slot_now may)
set_slot mays may First = refl
set_slot mays may Second = refl

-- it stands in its slot, and what recoveries made void is before it
pub newly_written : (s : Store) (mays : Mays) (slot : Slot) (w : Walk) (starts : ℕ) → IsStore s → w.last ≡ s.steps → w.first < w.last → s.reached ≤ w.first → starts ≤ w.first
    → IsWritten (record s { slots = map slot_now (in_order (with slot (Some w ∷ []) mays)) }) starts (number_of slot) (view_of_walk w)
newly_written s mays slot w starts is ends walked reached by = record {
  stands = set_slot mays (Some w ∷ []) slot;
  covers = (by, inr walked);
  live = live (is_void s.voids w.last) refl;
}
  where
    live : (v : Bool) → is_void s.voids w.last ≡ v → is_void s.voids w.last ≡ false
    live false e = e
    live true e = absurd (omega (arith, is.gone w.last e, reached, walked))

other_twice : (slot : Slot) → other_of (other_of slot) ≡ slot
other_twice First = refl
other_twice Second = refl

-- it is the newest one, and the base is in the other slot
pub ended_either : (writing : Checkpointing MemDisk) (owed : ℕ) (s t : Store) (mays : Mays) (w : Walk) (starts : ℕ) → IsStore s → LeadsTo s t
    → s.slots ≡ map slot_now (in_order mays) → t.slots ≡ map slot_now (in_order (with (slot_of writing) (Some w ∷ []) mays)) → NewestIsBase writing.newest s starts
    → IsWritten t starts (number_of (slot_of writing)) (view_of_walk w) → w.last ≤ owed → EitherIsBase (Some (slot_of writing)) owed t starts
ended_either writing owed s t mays w starts is l was now base stands owes =
    by (written_elsewhere writing.newest starts s t mays (Some w ∷ []) is l was now base)
  where
    by : NewestIsBase writing.newest t starts → EitherIsBase (Some (slot_of writing)) owed t starts
    by (inl none) = inl (inl none)
    by (inr b) = inr (record {
      slot = slot_of writing;
      at = refl;
      written = view_of_walk w;
      stands = stands;
      owes = owes;
      base = b.1;
      settled = subst (λ (slot : Slot). IsSettledIn t starts (number_of slot) b.1) (sym (ap (λ (n : Option Slot). other_of (next_slot n)) b.2 ∙ other_twice b.0)) b.3;
    })

-- a number to which all logs go is one to which they go by less
reach_less : (m n : ℕ) (s : Store) → m ≤ n → AllReach n s → AllReach m s
reach_less m n s le reach worker log there front left = let by = reach worker log there front left in omega (arith, le, by)

pub settled_newest : (newest : Option Slot) (owed : ℕ) (s : Store) (starts : ℕ) → EitherIsBase newest owed s starts → AllReach owed s → NewestIsBase newest s starts
settled_newest newest owed s starts (inl b) reach = b
settled_newest newest owed s starts (inr o) reach = inr (
  o.slot,
  o.written,
  o.at,
  record { stands = o.stands.stands; covers = o.stands.covers; live = o.stands.live; settled = reach_less o.written.to owed s o.owes reach },
)

pub now_settled : (s : Store) (starts : ℕ) (slot : Slot) (c : CheckpointView) → IsWritten s starts (number_of slot) c → AllReach c.to s → NewestIsBase (Some slot) s starts
now_settled s starts slot c w reach = inr (slot, c, refl, record { stands = w.stands; covers = w.covers; live = w.live; settled = reach })

-- a base covers only what is before the last step
pub base_made : (newest : Option Slot) (s : Store) (starts : ℕ) → IsStore s → NewestIsBase newest s starts → starts ≤ s.steps
base_made newest s starts is (inl none) = omega (arith, none)
base_made newest s starts is (inr b) =
    let made = is.slots (number_of b.0) (only_this (Some b.1)) b.3.stands b.1 (inl refl) in
    let covers = b.3.covers.0 in
    omega (arith, made.order, made.made, covers)

-- ---- the checkpoint that a recovery used

module _ (s : Store) (fronts : List Contents) (chains : List Chain) (both : Both (Option Checkpoint)) (is : IsStore s) (rest : s.logs ≡ map log_at_rest fronts)
    (rest_slots : s.slots ≡ map only_this (slots_of (in_order both))) (ends : AllZip EndsLog fronts chains) where
  -- is a base of what is before the chains, as is each that may be used
  pub use_covers : HasUse chains (slots_of (in_order both)) → (starts : ℕ) × BeginBy starts chains × HasBase s starts
  use_covers (inl none) = (0, none, inl refl)
  use_covers (inr u) = ⊎_elim
      (λ walked. (
        u.1.from,
        (λ d at. (u.3.covers d at).0),
        inr (u.0, u.1, used_settles s fronts chains (slots_of (in_order both)) is rest rest_slots ends u.1.from u.0 u.1 u.2 u.3 (omega arith, inr walked)),
      ))
      (λ same. (0, (λ d at. none same d.start (u.3.covers d at).1), inl refl))
      (cases_lt u.1.from u.1.to)
    where
      none : u.1.to ≤ u.1.from → (start : ℕ) → (start ≡ 0) ⊎ (u.1.from < u.1.to) → start ≤ 0
      none same start (inl zero_start) = omega (arith, zero_start)
      none same start (inr walked) = absurd (omega (arith, same, walked))

  newest_of : (slot : Slot) → IsUsedOver chains (slots_of (in_order both)) (Some (number_of slot)) → (starts : ℕ) × BeginBy starts chains × NewestIsBase (Some slot) s starts
  newest_of slot u = ⊎_elim
      (λ walked. (
        u.0.from,
        (λ d at. (u.2.covers d at).0),
        inr (slot, u.0, refl, used_settles s fronts chains (slots_of (in_order both)) is rest rest_slots ends u.0.from (number_of slot) u.0 u.1 u.2 (omega arith, inr walked)),
      ))
      (λ same. (0, (λ d at. none same d.start (u.2.covers d at).1), inl refl))
      (cases_lt u.0.from u.0.to)
    where
      none : u.0.to ≤ u.0.from → (start : ℕ) → (start ≡ 0) ⊎ (u.0.from < u.0.to) → start ≤ 0
      none same start (inl zero_start) = omega (arith, zero_start)
      none same start (inr walked) = absurd (omega (arith, same, walked))

  -- and it becomes the newest
  pub used_newest : (used : Option ℕ) → IsUsedOver chains (slots_of (in_order both)) used → (starts : ℕ) × BeginBy starts chains × NewestIsBase (used_slot used) s starts
  used_newest None u = (0, u.0, inl refl)
  used_newest (Some zero) u = newest_of First u
  used_newest (Some (suc zero)) u = newest_of Second u
  used_newest (Some (suc (suc n))) u = absurd (no_some (Some u.0) u.1)
