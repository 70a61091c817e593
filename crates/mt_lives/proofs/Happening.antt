-- An event that leaves the slots alone, of a store that serves or does not.
use Rattle.std.proofs.Common.{◌≡◌, List, length, Option, Some, None, Result, Ok, Err, inl, refl, sym, ap, subst, ◌∙◌}
use Rattle.std.specs.Prelude.{IfOk, OnOk}
use Rattle.mt_rows.specs.Accounts.{Accounts}
use Rattle.mt_disk.specs.declared.mem.MemDisk.{MemDisk}
use Rattle.mt_lives.specs.declared.live_slots.LiveSlots.{LiveSlots}
use Rattle.mt_runs.specs.Placings.{Quotas}
use Rattle.mt_store_logs.specs.{declared.store_log.StoreLog.StoreLog, Places.workers_of}
use Rattle.mt_lives.specs.{declared.events.CrashImages.CrashImages, declared.events.StoreEvent.StoreEvent, declared.events.StoreEvent.TheVariants.{Core, Move, Take, Tidy, Flush, Reopen, SettleBegin, SettleNext, CheckBegin, CheckStep, Crash}}
use Rattle.mt_lives.specs.{declared.events.StoreNote.StoreNote, declared.events.StoreNote.TheVariants.NoSuch, declared.serving.Serving.Serving}
use Rattle.mt_lives.specs.{Lives.{Life, Past, Standing, IsServing, IsNoted}, Holds.{HoldsNow, Holds}, Steps.{LeavesSlots, GoesOn}, Forced.{IsBeginForced, IsStepForced, IsForcedAll, IsDone}}

pub leaves_slots : (event : StoreEvent) → (event ≡ CheckBegin → ⊥) → (event ≡ CheckStep → ⊥) → ((images : CrashImages) → event ≡ Crash images → ⊥) → LeavesSlots event
leaves_slots CheckBegin begins steps crashes = absurd (begins refl)
leaves_slots CheckStep begins steps crashes = absurd (steps refl)
leaves_slots (Crash images) begins steps crashes = absurd (crashes images refl)
leaves_slots event begins steps crashes = tt

-- an event that doesn't leave the slots alone is no tidying, no step and no take
pub done_other : (event : StoreEvent) (note : StoreNote) (was now : Option Serving) → ¬ LeavesSlots event → IsDone event note was now
done_other event note None now not = tt
done_other CheckBegin note (Some was) now not = tt
done_other CheckStep note (Some was) now not = tt
done_other (Crash images) note (Some was) now not = tt
done_other event note (Some was) now not = absurd (not tt)

-- where the store serves no life, NoSuch may be noted
pub nothing_noted : (quotas : Quotas) (standing : Standing) (event : StoreEvent) → LeavesSlots event → ¬ IsServing standing → IsNoted quotas standing event NoSuch standing
nothing_noted quotas standing (Core e) leaves not = (not, refl)
nothing_noted quotas standing (Move op) leaves not = (not, refl)
nothing_noted quotas standing (Take op) leaves not = refl
nothing_noted quotas standing Tidy leaves not = (not, refl)
nothing_noted quotas standing (SettleBegin id) leaves not = (inl not, refl)
nothing_noted quotas standing (SettleNext id) leaves not = (inl not, refl)
nothing_noted quotas standing (Flush worker) leaves not = refl
nothing_noted quotas standing (Reopen worker) leaves not = refl
nothing_noted quotas standing event leaves not = absurd leaves

-- a store that has nothing while it serves serves no life
pub serves_none : (accounts : Accounts) (slots : LiveSlots) (standing : Standing) (logs : List (StoreLog MemDisk)) → Holds accounts slots standing logs None → ¬ IsServing standing
serves_none accounts slots standing logs h serves = subst (λ (n : Result Life Past). HoldsNow h.from h.turning accounts standing.begun n h.s logs None) serves.1 h.now

-- the logs that a call went over are those of the store
module _ {E : Type 0} (first old new last : List (StoreLog MemDisk)) (result : Result StoreNote E) (same_old : first ≡ old) (same_new : new ≡ last) where
  pub served_count : OnOk result (length new ≡ length first) → OnOk result (length last ≡ length old)
  served_count = by result
    where
      by : (r : Result StoreNote E) → OnOk r (length new ≡ length first) → OnOk r (length last ≡ length old)
      by (Ok note) len = ap length (sym same_new) ∙ len ∙ ap length same_old
      by (Err e) len = tt

  pub served_workers : OnOk result (workers_of new ≡ workers_of first) → OnOk result (workers_of last ≡ workers_of old)
  served_workers = by result
    where
      by : (r : Result StoreNote E) → OnOk r (workers_of new ≡ workers_of first) → OnOk r (workers_of last ≡ workers_of old)
      by (Ok note) same = ap workers_of (sym same_new) ∙ same ∙ ap workers_of same_old
      by (Err e) same = tt

  pub served_goes : (accounts : Accounts) (slots : LiveSlots) (event : StoreEvent) (was now : Serving) (serving : Option Serving) → serving ≡ Some was
      → IfOk result (λ note. (any : Accounts) (some : LiveSlots) → GoesOn any some some event note first (Some was) new (Some now))
      → IfOk result (λ note. GoesOn accounts slots slots event note old serving last (Some now))
  served_goes accounts slots event was now serving is = by result
    where
      by : (r : Result StoreNote E) → IfOk r (λ note. (any : Accounts) (some : LiveSlots) → GoesOn any some some event note first (Some was) new (Some now))
          → IfOk r (λ note. GoesOn accounts slots slots event note old serving last (Some now))
      by (Ok note) goes =
          subst (λ s. GoesOn accounts slots slots event note old s last (Some now)) (sym is)
          (subst (λ logs. GoesOn accounts slots slots event note logs (Some was) last (Some now)) same_old
          (subst (λ logs. GoesOn accounts slots slots event note first (Some was) logs (Some now)) same_new (goes accounts slots)))
      by (Err e) goes = tt

-- ---- events of a turn

-- a turn begins, or does not
pub begun_goes : (accounts : Accounts) (slots now : LiveSlots) (event : StoreEvent) (note : StoreNote) (first logs : List (StoreLog MemDisk)) (serving : Option Serving) → event ≡ CheckBegin
    → first ≡ logs → GoesOn accounts slots now CheckBegin note first serving first serving → GoesOn accounts slots now event note logs serving logs serving
begun_goes accounts slots now event note first logs serving is same goes =
    subst (λ e. GoesOn accounts slots now e note logs serving logs serving) (sym is) (subst (λ ls. GoesOn accounts slots now CheckBegin note ls serving ls serving) same goes)

pub begun_forced : (accounts : Accounts) (slots now : LiveSlots) (event : StoreEvent) (note : StoreNote) (first logs : List (StoreLog MemDisk)) (serving : Option Serving) → event ≡ CheckBegin
    → first ≡ logs → IsBeginForced accounts first serving note slots now → IsForcedAll accounts slots now event note logs serving logs
begun_forced accounts slots now event note first logs serving is same forced =
    subst (λ e. IsForcedAll accounts slots now e note logs serving logs) (sym is) (refl, subst (λ ls. IsBeginForced accounts ls serving note slots now) same forced)

-- it goes on, or does not
module _ {E : Type 0} (accounts : Accounts) (slots now : LiveSlots) (event : StoreEvent) (first old new last : List (StoreLog MemDisk)) where
  pub stepped_goes : (was is : Option Serving) (result : Result StoreNote E) → event ≡ CheckStep → first ≡ old → new ≡ last
      → IfOk result (λ note. GoesOn accounts slots now CheckStep note first was new is) → IfOk result (λ note. GoesOn accounts slots now event note old was last is)
  stepped_goes was is (Ok note) same same_old same_new goes =
      subst (λ e. GoesOn accounts slots now e note old was last is) (sym same)
      (subst (λ logs. GoesOn accounts slots now CheckStep note logs was last is) same_old
      (subst (λ logs. GoesOn accounts slots now CheckStep note first was logs is) same_new goes))
  stepped_goes was is (Err e) same same_old same_new goes = tt

  pub stepped_forced : (serving : Option Serving) (result : Result StoreNote E) → event ≡ CheckStep → first ≡ old → new ≡ last → IfOk result (λ note. IsStepForced note slots now first new)
      → IfOk result (λ note. IsForcedAll accounts slots now event note old serving last)
  stepped_forced serving (Ok note) same same_old same_new forced =
      subst (λ e. IsForcedAll accounts slots now e note old serving last) (sym same)
      (subst (λ logs. IsStepForced note slots now logs last) same_old (subst (λ logs. IsStepForced note slots now first logs) same_new forced))
  stepped_forced serving (Err e) same same_old same_new forced = tt
