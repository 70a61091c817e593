-- A log is followed by its next one, in a turn: all of it holds again.
use Rattle.std.proofs.Common.{◌≡◌, ◌⊎◌, ⊎_elim, ℕ, ◌+◌, ◌<◌, ◌≤◌, List, Some, refl, sym, ap, subst, ◌∙◌, arith, inl, inr}
use Rattle.std.specs.Prelude.{slice_get, slice_set}
use Rattle.mt_rows.specs.{Accounts.Accounts, declared.refusal.Refusal.Refusal}
use Rattle.mt_disk.specs.{declared.mem.MemDisk.MemDisk, Mem.mem_state}
use Rattle.mt_crashes.specs.{Stores.LogNow}
use Rattle.mt_slots.specs.declared.store_slots.StoreSlots.{StoreSlots}
use Rattle.mt_chain_files.specs.Turns.{FilesNow}
use Rattle.mt_turns.specs.declared.worker_log.WorkerLog.{WorkerLog}
use Rattle.mt_store_logs.specs.{declared.store_log.StoreLog.StoreLog, Turns.{BeginsNextLog, FailsToBeginNextLog}}
use Rattle.mt_store_logs.specs.Ends.{StandsInTurn}
use Rattle.mt_store_logs.proofs.NextLaws.{next_begun_in_turn, next_not_begun_in_turn, never_log_count}
use Rattle.mt_lives.specs.{declared.live_slots.LiveSlots.LiveSlots, declared.live_slots.LiveSlots.TheVariants.Turns}
use Rattle.mt_lives.specs.declared.live_slots.TurnStage.TheVariants.{Begins}
use Rattle.mt_lives.specs.declared.serving.Serving.{Serving}
use Rattle.mt_lives.specs.Lives.{Standing, StopsTurn}
use Rattle.mt_lives.specs.Parts.{turn_at}
use Rattle.mt_lives.specs.Turning.{Part, IsPart, part_of}
use Rattle.mt_lives.specs.Holds.{HoldsKept, IsLogAt, HoldsServing, Holds}
use Rattle.mt_lives.proofs.Turning.{beginning_part, has_next_part, begun_to, others_begun, this_begun}
use Rattle.mt_lives.proofs.{Logged.set_length, Flushing.{keeps_rules, failures_of, within}, Noting.{life_served, held, found}}
use Rattle.mt_rows.specs.declared.refusal.Refusal.TheVariants as refusals
use Rattle.mt_lives.proofs.TurnParts.{replaced, with_part, which, starts_so, turning_so, rises_so, holds_turned, at_stage}

-- this became of a log that was brought up to date: it was followed by its next one, or had that generation
abbrev pub Follows : ℕ → StoreLog MemDisk → StoreLog MemDisk → Type 0
Follows generation mid new = ((mid.log.generation < generation) × BeginsNextLog keeps_rules mem_state failures_of mid new) ⊎ ((generation ≤ mid.log.generation) × (new ≡ mid))

module _ (accounts : Accounts) (standing : Standing) (slots : StoreSlots MemDisk) (k : ℕ) (logs : List (StoreLog MemDisk)) (serving : Serving)
    (h : Holds accounts (Turns (turn_at slots (Begins k))) standing logs (Some serving)) (mid new : StoreLog MemDisk) (here : slice_get logs k ≡ Some mid) where
  abbrev turn_now : LiveSlots
  turn_now = Turns (turn_at slots (Begins k))

  was : HoldsServing h.from h.turning accounts standing.begun (life_served accounts turn_now standing logs serving h) h.s logs serving
  was = held accounts turn_now standing logs serving h

  abbrev now : LogNow
  now = (found accounts turn_now standing logs serving h k mid new here).0

  abbrev there : slice_get h.s.logs k ≡ Some now
  there = (found accounts turn_now standing logs serving h k mid new here).1

  abbrev At : Part → StoreLog MemDisk → Type 0
  At part log = IsLogAt h.from part h.s serving.state.logs k now log

  at : At (part_of h.turning k) mid
  at = was.each k now mid there here

  abbrev steps : ℕ
  steps = h.s.steps

  abbrev begun_part : Part
  begun_part = record (part_of h.turning k) { begun = Some steps }

  -- with a log in its place that the disk tells
  at_with : (part : Part) (files : FilesNow) (log : StoreLog MemDisk) → StandsInTurn keeps_rules mem_state h.from now files log → log.kept ≡ mid.kept → IsPart h.from part files → At part log
  at_with part files log stands kept begins = record {
    files = files;
    stands = stands;
    begins = begins;
    given_so = at.given_so ∙ ap (λ b. Some (Rattle.mt_store_logs.specs.Shows.drained_upto now b)) (sym kept);
    kept = subst (HoldsKept h.s k) (sym kept) at.kept;
  }

  has_next : (files : FilesNow) (log : StoreLog MemDisk) → StandsInTurn keeps_rules mem_state h.from now files log → log.log.generation ≡ h.from + 1 → IsPart h.from (part_of h.turning k) files
      → IsPart h.from begun_part files
  has_next files log stands of begins =
      let r = rises_so accounts turn_now standing logs serving h k now there in
      has_next_part h.from (part_of h.turning k) steps now files log stands of r.0 r.1 begins

  -- a log before the turn's generation is of the one from which on the files are
  of_first : mid.log.generation < serving.generation → mid.log.generation ≡ h.from
  of_first lt = let to = was.turns_to in ⊎_elim (λ first. first) (λ next. absurd (omega (arith, to, lt, next))) (which h.from now at.files mid at.stands)

  begun_at : Follows serving.generation mid new → At begun_part new
  begun_at (inr had) = subst (At begun_part) (sym had.1) (at_with begun_part at.files mid at.stands refl (has_next at.files mid at.stands of_next at.begins))
    where
      of_next : mid.log.generation ≡ h.from + 1
      of_next = let to = was.turns_to in let le = had.0 in ⊎_elim (λ first. absurd (omega (arith, to, le, first))) (λ next. next) (which h.from now at.files mid at.stands)
  begun_at (inl begins) =
      let first = of_first begins.0 in
      let r = next_begun_in_turn keeps_rules mem_state failures_of h.from now at.files mid new at.stands first begins.1 in
      let of_new : new.log.generation ≡ h.from + 1 = ap (λ (l : WorkerLog MemDisk). l.generation) begins.1.does.stands ∙ ap (λ n. n + 1) first in
      at_with begun_part r.0 new r.1 begins.1.kept
      (has_next r.0 new r.1 of_new (beginning_part h.from (part_of h.turning k) now at.files r.0 mid at.stands first r.2 at.begins))

  pub begun_holds : Follows serving.generation mid new → Holds accounts (Turns (turn_at slots (Begins (k + 1)))) standing (slice_set logs k new) (Some serving)
  begun_holds f =
      let starts = starts_so accounts turn_now standing logs serving h in
      let in_stage = at_stage accounts standing slots (Begins k) logs serving h in
      let lt = within h.s.logs k now there in
      holds_turned accounts turn_now standing logs serving h h.from (begun_to k steps h.turning) (Turns (turn_at slots (Begins (k + 1)))) standing.check (slice_set logs k new) serving refl refl refl
      was.turns_to (set_length logs k new) (omega arith) (omega arith, omega (arith, lt), in_stage.2) h.stand
      (replaced h.s logs k mid new now there here
      (with_part h.from begun_part (part_of (begun_to k steps h.turning) k) h.s serving.state.logs k now new (λ files p. this_begun h.from h.turning k steps files p) (begun_at f))
      (λ j n log lt other a. with_part h.from (part_of h.turning j) (part_of (begun_to k steps h.turning) j) h.s serving.state.logs j n log
      (λ files p. others_begun h.from h.turning k steps j files in_stage.0 starts other p) a)
      was.each)

  -- it is not begun, and its file may have a log or not
  not_begun_at : (e : Refusal) → mid.log.generation < serving.generation → FailsToBeginNextLog keeps_rules mem_state failures_of e mid new → At (part_of h.turning k) new
  not_begun_at e lt fails =
      let r = next_not_begun_in_turn keeps_rules mem_state failures_of h.from now at.files e mid new at.stands (of_first lt) fails in
      at_with (part_of h.turning k) r.0 new r.1 (kept_same fails) (beginning_part h.from (part_of h.turning k) now at.files r.0 mid at.stands (of_first lt) r.2 at.begins)
    where
      kept_same : FailsToBeginNextLog keeps_rules mem_state failures_of e mid new → new.kept ≡ mid.kept
      kept_same (inl none) = ap (λ (l : StoreLog MemDisk). l.kept) none.1
      kept_same (inr (inl b)) = b.1.kept
      kept_same (inr (inr b)) = b.1.kept

  pub not_begun_holds : (e : Refusal) → mid.log.generation < serving.generation → FailsToBeginNextLog keeps_rules mem_state failures_of e mid new
      → Holds accounts turn_now standing (slice_set logs k new) (Some serving)
  not_begun_holds e lt fails =
      holds_turned accounts turn_now standing logs serving h h.from h.turning turn_now standing.check (slice_set logs k new) serving refl refl refl was.turns_to (set_length logs k new)
      (starts_so accounts turn_now standing logs serving h) (turning_so accounts turn_now standing logs serving h) h.stand
      (replaced h.s logs k mid new now there here (not_begun_at e lt fails) (λ j n log lt other a. a) was.each)

  -- why it is not begun
  pub not_begun_for : (e : Refusal) → mid.log.generation < serving.generation → FailsToBeginNextLog keeps_rules mem_state failures_of e mid new → StopsTurn e
  not_begun_for e lt (inr (inl b)) = inl (inr b.0)
  not_begun_for e lt (inr (inr b)) =
      absurd (never_log_count keeps_rules mem_state failures_of h.from now at.files e mid new at.stands (of_first lt) (inr (inr b)) b.0)
  not_begun_for refusals.Device lt (inl none) = inl (inr refl)
  not_begun_for refusals.Spent lt (inl none) = inr refl
  not_begun_for e lt (inl none) = absurd none.0
