-- A log is settled in a turn. After the last one the next generation stands whole, on the newest checkpoint.
use Rattle.std.proofs.Common.{◌≡◌, ◌≢◌, ⊎_elim, ℕ, ◌+◌, ◌<◌, ◌≤◌, min, List, length, Option, Some, refl, sym, subst, ◌∙◌, arith, inl, inr}
use Rattle.std.proofs.lemmas.Bool.{cases_eq}
use Rattle.mt_rows.specs.Accounts.{Accounts}
use Rattle.mt_disk.specs.declared.mem.MemDisk.{MemDisk}
use Rattle.mt_crashes.specs.{Stores.{ReachesAt, AllReach}}
use Rattle.mt_slots.specs.{declared.slot.Slot.Slot, declared.store_slots.StoreSlots.StoreSlots}
use Rattle.mt_store_logs.specs.declared.store_log.StoreLog.{StoreLog}
use Rattle.mt_lives.specs.{declared.live_slots.LiveSlots.LiveSlots, declared.live_slots.LiveSlots.TheVariants.Turns}
use Rattle.mt_lives.specs.declared.live_slots.TurnStage.{TurnStage, TheVariants.{Settles, GivesUp}}
use Rattle.mt_lives.specs.{declared.serving.Serving.Serving, declared.serving.Settle.Settle, Steps.one_turn_more}
use Rattle.mt_lives.specs.Lives.{Standing}
use Rattle.mt_lives.specs.{Bases.NewestIsBase, Parts.{turn_at, ComesAfter}}
use Rattle.mt_lives.specs.Turning.{part_of, IsSettling}
use Rattle.mt_lives.specs.Holds.{HoldsServing, Holds}
use Rattle.mt_lives.proofs.Turning.{next_whole, whole_next}
use Rattle.mt_lives.proofs.{Bases.now_settled, Flushing.within, Noting.{life_served, held}}
use Rattle.mt_lives.proofs.TurnParts.{at_stage, each_so, holds_turned, is_store, starts_so, with_part}

module _ (accounts : Accounts) (standing : Standing) (slots : StoreSlots MemDisk) (settle : Settle) (logs : List (StoreLog MemDisk)) (serving : Serving)
    (h : Holds accounts (Turns (turn_at slots (Settles settle))) standing logs (Some serving)) (mark : ℕ) (reach : ReachesAt mark h.s settle.next) (at_last : mark ≡ serving.state.steps) where
  abbrev turn_now : LiveSlots
  turn_now = Turns (turn_at slots (Settles settle))

  was : HoldsServing h.from h.turning accounts standing.begun (life_served accounts turn_now standing logs serving h) h.s logs serving
  was = held accounts turn_now standing logs serving h

  settling : IsSettling h.turning slots.newest h.s settle
  settling = (at_stage accounts standing slots (Settles settle) logs serving h).0

  upto : mark ≡ h.s.steps
  upto = at_last ∙ was.serves.steps

  -- the checkpoint's end is at most the last step
  written_made : settling.written.to ≤ h.s.steps
  written_made =
      ((is_store accounts turn_now standing logs serving h).slots (Rattle.mt_slots.specs.Places.number_of settling.slot) (Rattle.mt_crashes.specs.Stores.only_this (Some settling.written)) settling.stands.stands settling.written (inl refl)).made

  less : (m n worker : ℕ) → m ≤ n → ReachesAt n h.s worker → ReachesAt m h.s worker
  less m n worker le r log there front left = let reached = r log there front left in omega (arith, le, reached)

  -- one log more goes by it
  more : (worker : ℕ) → worker < settle.next + 1 → ReachesAt (min settle.least mark) h.s worker
  more worker lt = ⊎_elim
      (λ same. subst (λ w. ReachesAt (min settle.least mark) h.s w) (sym same) (less (min settle.least mark) mark settle.next (omega arith) reach))
      (λ other. less (min settle.least mark) settle.least worker (omega arith) (settling.before worker (omega (arith, lt, other))))
      (cases_eq worker settle.next)

  least_so : settling.written.to ≤ min settle.least mark
  least_so = let made = written_made in let least = settling.least in omega (arith, made, least, upto)

  goes_on : settle.next + 1 ≢ length logs → Holds accounts (Turns (turn_at slots (Settles (one_turn_more settle mark)))) standing logs (Some serving)
  goes_on other =
      let next : IsSettling h.turning slots.newest h.s (one_turn_more settle mark) = record {
        slot = settling.slot;
        at = settling.at;
        written = settling.written;
        begun = settling.begun;
        stands = settling.stands;
        least = least_so;
        next = let lt = settling.next in let count = h.count in omega (arith, lt, count, other);
        before = more;
      } in
      holds_turned accounts turn_now standing logs serving h h.from h.turning (Turns (turn_at slots (Settles (one_turn_more settle mark)))) standing.check logs serving refl refl refl was.turns_to refl
      (starts_so accounts turn_now standing logs serving h) (next, (at_stage accounts standing slots (Settles settle) logs serving h).1) h.stand was.each

  -- all go by it: so the next generation stands whole, on the newest checkpoint
  all_reach : settle.next + 1 ≡ length logs → AllReach settling.written.to h.s
  all_reach end worker log there = less settling.written.to (min settle.least mark) worker least_so (more worker (let lt = within h.s.logs worker log there in let count = h.count in omega (arith, lt, count, end))) log there

  settled_base : settle.next + 1 ≡ length logs → NewestIsBase slots.newest h.s h.turning.starts
  settled_base end =
      subst (λ (n : Option Slot). NewestIsBase n h.s h.turning.starts) (sym settling.at) (now_settled h.s h.turning.starts settling.slot settling.written settling.stands (all_reach end))

  all_settled : settle.next + 1 ≡ length logs → Holds accounts (Turns (turn_at slots (GivesUp 0))) standing logs (Some serving)
  all_settled end =
      let some = h.some in
      let count = h.count in
      holds_turned accounts turn_now standing logs serving h h.from (next_whole h.from h.turning) (Turns (turn_at slots (GivesUp 0))) standing.check logs serving refl refl refl was.turns_to refl
      (omega arith) (refl, omega arith, omega (arith, some, count), settled_base end) h.stand
      (each_so h.s logs (λ j n log lt a. with_part h.from (part_of h.turning j) (part_of (next_whole h.from h.turning) j) h.s serving.state.logs j n log
      (λ files p. whole_next h.from h.turning j files (let all = settling.begun.all in omega (arith, lt, all)) p) a) was.each)

  pub settled_holds : (later : TurnStage) → ComesAfter (length logs) settle mark later → Holds accounts (Turns (turn_at slots later)) standing logs (Some serving)
  settled_holds later (inl end) = subst (λ (st : TurnStage). Holds accounts (Turns (turn_at slots st)) standing logs (Some serving)) (sym end.1) (all_settled end.0)
  settled_holds later (inr more) = subst (λ (st : TurnStage). Holds accounts (Turns (turn_at slots st)) standing logs (Some serving)) (sym more.1) (goes_on more.0)
