-- Where a part of a turn that is a log's goes, by what its calls tell.
use Rattle.std.proofs.Common.{◌≡◌, ◌≢◌, ⊎_elim, ℕ, ◌+◌, ◌^◌, ◌<◌, List, length, Some, Ok, Err, refl, ap, subst, arith, inl, inr}
use Rattle.std.specs.Prelude.{slice_get, slice_set}
use Rattle.mt_rows.specs.{Accounts.Accounts, declared.refusal.Refusal.Refusal}
use Rattle.mt_disk.specs.{declared.mem.MemDisk.MemDisk, Mem.mem_state}
use Rattle.mt_slots.specs.declared.store_slots.StoreSlots.{StoreSlots}
use Rattle.mt_turns.specs.declared.worker_log.WorkerLog.{WorkerLog}
use Rattle.mt_store_logs.specs.{declared.store_log.StoreLog.StoreLog, Places.worker_of, Turns.{FailsToFlushLog, FlushesOnly}}
use Rattle.mt_store_logs.specs.LogTurns.{BringsUp, FailsToBringUp}
use Rattle.mt_stored.specs.Begins.{FlushesOrBegins, FailsToFlushOrBegin, BringsUpAndBegins, FailsToBringUpAndBegin}
use Rattle.mt_lives.specs.{declared.live_slots.LiveSlots.LiveSlots, declared.live_slots.LiveSlots.TheVariants.{Rest, Turns}}
use Rattle.mt_lives.specs.declared.live_slots.TurnStage.{TurnStage, TheVariants.{Begins, Settles, GivesUp}}
use Rattle.mt_lives.specs.{declared.events.StoreNote.TheVariants.{CheckTurned, TurnEnded, Refused}, declared.serving.Serving.Serving, declared.serving.Settle.Settle, Serving.DrainsServing}
use Rattle.mt_lives.specs.{Lives.{Standing, steps_in}, Parts.{turn_at, TellsGivenUp, ComesAfter, TurnsOn}, Holds.Holds, Steps.IsHeldBy}
use Rattle.mt_lives.proofs.{Comes.set_twice, Flushing.{keeps_rules, failures_of}}
use Rattle.mt_lives.proofs.{LogDrains.{log_turns, log_not_turned}, Goes.same_life}
use Rattle.mt_lives.proofs.Draining as drains
use Rattle.mt_lives.proofs.{TurnParts.{Goes, at_stage, turned, refused, given_up_so}, TurnBegins.{begun_holds, not_begun_holds, not_begun_for}, TurnSettles.settled_holds, TurnGivesUp.{given_holds, ended_goes, not_given_holds}}

module _ (accounts : Accounts) (standing : Standing) (slots : StoreSlots MemDisk) (stage : TurnStage) (k : ℕ) (logs : List (StoreLog MemDisk)) (serving : Serving)
    (h : Holds accounts (Turns (turn_at slots stage)) standing logs (Some serving)) (log : StoreLog MemDisk) (here : slice_get logs k ≡ Some log) (whose : worker_of log ≡ k) (new : StoreLog MemDisk)
    (now : Serving) where
  abbrev turn_now : LiveSlots
  turn_now = Turns (turn_at slots stage)

  abbrev there : (l : StoreLog MemDisk) → slice_get (slice_set logs k l) k ≡ Some l
  there l = drains.there accounts turn_now standing logs serving h k log here l

  -- a log was brought up to the last step
  brought : (mark : ℕ) (mid : StoreLog MemDisk) → BringsUp keeps_rules mem_state failures_of DrainsServing serving.state.steps mark log mid serving now
      → drains.Flushed accounts turn_now standing k logs serving there serving.state.steps mark mid now
  brought mark mid b =
      drains.turn_noted accounts turn_now standing logs serving h k log here serving.state.steps mark mid now
      (log_turns keeps_rules mem_state failures_of DrainsServing k serving.state.steps mark log mid serving now whose b)

  -- it was not: the turn is given up
  pub not_brought : (e : Refusal) → FailsToBringUp keeps_rules mem_state failures_of DrainsServing serving.state.steps e log new serving now
      → Goes accounts standing (Refused e) (Rest slots) (slice_set logs k new) now
  not_brought e f =
      let r = drains.turn_fails accounts turn_now standing logs serving h k log here serving.state.steps e new now
      (log_not_turned keeps_rules mem_state failures_of DrainsServing k serving.state.steps e log new serving now whose f) in
      refused accounts standing slots stage logs serving h (slice_set logs k new) now e (inl r.memory)
      (given_up_so accounts standing slots stage (slice_set logs k new) now r.holds)

  -- it goes up to the last step
  pub at_last : (mark : ℕ) (mid : StoreLog MemDisk) (r : drains.Flushed accounts turn_now standing k logs serving there serving.state.steps mark mid now) → mark ≡ now.state.steps
  at_last mark mid r =
      let made = r.made in
      let reaches = r.reaches in
      let first = drains.steps_so accounts turn_now standing logs serving h k log here in
      let last = drains.steps_so accounts turn_now standing (slice_set logs k mid) now r.holds k mid (there mid) in
      let same = ap steps_in (same_life accounts turn_now standing logs serving h (slice_set logs k mid) now r.holds) in
      omega (arith, made, reaches, first, last, same)

-- ---- a next log is begun

module _ (accounts : Accounts) (standing : Standing) (slots : StoreSlots MemDisk) (k : ℕ) (logs : List (StoreLog MemDisk)) (serving : Serving)
    (h : Holds accounts (Turns (turn_at slots (Begins k))) standing logs (Some serving)) (log : StoreLog MemDisk) (here : slice_get logs k ≡ Some log) (whose : worker_of log ≡ k)
    (new : StoreLog MemDisk) (now : Serving) where
  abbrev stage_now : LiveSlots
  stage_now = Turns (turn_at slots (Begins k))

  -- another log in place of the one that was brought up
  in_place : (slots_now : LiveSlots) (st : Standing) (mid : StoreLog MemDisk) → Holds accounts slots_now st (slice_set (slice_set logs k mid) k new) (Some now)
      → Holds accounts slots_now st (slice_set logs k new) (Some now)
  in_place slots_now st mid holds = subst (λ ls. Holds accounts slots_now st ls (Some now)) (set_twice logs k mid new) holds

  pub begin_goes : (mark : ℕ) → BringsUpAndBegins keeps_rules mem_state failures_of DrainsServing serving.state.steps serving.generation mark log new serving now
      → Goes accounts standing CheckTurned (Turns (turn_at slots (Begins (k + 1)))) (slice_set logs k new) now
  begin_goes mark b = turned accounts standing slots (Begins k) logs serving h (slice_set logs k new) now (Begins (k + 1)) (by b.begins)
    where
      by : FlushesOrBegins keeps_rules mem_state failures_of DrainsServing serving.state.steps serving.generation mark b.mid new serving now
          → Holds accounts (Turns (turn_at slots (Begins (k + 1)))) standing (slice_set logs k new) (Some now)
      by (inl begins) =
          let f = begins.1 in
          let r = brought accounts standing slots (Begins k) k logs serving h log here whose new now mark f.mid (record { mid = b.mid; opens = b.opens; flushes = f.flushes }) in
          let same : f.mid.log.generation ≡ b.mid.log.generation = ap (λ (l : WorkerLog MemDisk). l.generation) f.flushes.rest in
          let lt = begins.0 in
          let to = r.generation in
          in_place (Turns (turn_at slots (Begins (k + 1)))) standing f.mid
          (begun_holds accounts standing slots k (slice_set logs k f.mid) now r.holds f.mid new (drains.there accounts stage_now standing logs serving h k log here f.mid)
          (inl (omega (arith, same, lt, to), f.begins)))
      by (inr flushes) =
          let r = brought accounts standing slots (Begins k) k logs serving h log here whose new now mark new (record { mid = b.mid; opens = b.opens; flushes = flushes.1 }) in
          let same : new.log.generation ≡ b.mid.log.generation = ap (λ (l : WorkerLog MemDisk). l.generation) flushes.1.rest in
          let le = flushes.0 in
          let to = r.generation in
          in_place (Turns (turn_at slots (Begins (k + 1)))) standing new
          (begun_holds accounts standing slots k (slice_set logs k new) now r.holds new new (drains.there accounts stage_now standing logs serving h k log here new)
          (inr (omega (arith, same, le, to), refl)))

  pub begin_stops : (e : Refusal) → FailsToBringUpAndBegin keeps_rules mem_state failures_of DrainsServing serving.state.steps serving.generation e log new serving now
      → Goes accounts standing (Refused e) (Rest slots) (slice_set logs k new) now
  begin_stops e (inl shut) = not_brought accounts standing slots (Begins k) k logs serving h log here whose new now e (inl shut)
  begin_stops e (inr only) = by only.fails
    where
      not_flushed : FailsToFlushLog keeps_rules mem_state failures_of DrainsServing serving.state.steps e only.mid new serving now → Goes accounts standing (Refused e) (Rest slots) (slice_set logs k new) now
      not_flushed f = not_brought accounts standing slots (Begins k) k logs serving h log here whose new now e (inr (record { mid = only.mid; opens = only.opens; fails = f }))

      flushed : only.mid.log.generation < serving.generation → FlushesOnly keeps_rules mem_state failures_of DrainsServing serving.state.steps e only.mid new serving now
          → Goes accounts standing (Refused e) (Rest slots) (slice_set logs k new) now
      flushed lt f =
          let r = brought accounts standing slots (Begins k) k logs serving h log here whose new now f.mark f.mid (record { mid = only.mid; opens = only.opens; flushes = f.flushes }) in
          let same : f.mid.log.generation ≡ only.mid.log.generation = ap (λ (l : WorkerLog MemDisk). l.generation) f.flushes.rest in
          let to = r.generation in
          let before = drains.there accounts stage_now standing logs serving h k log here f.mid in
          let below : f.mid.log.generation < now.generation = omega (arith, same, lt, to) in
          let holds = in_place stage_now standing f.mid
          (not_begun_holds accounts standing slots k (slice_set logs k f.mid) now r.holds f.mid new before e below f.fails) in
          refused accounts standing slots (Begins k) logs serving h (slice_set logs k new) now e
          (not_begun_for accounts standing slots k (slice_set logs k f.mid) now r.holds f.mid new before e below f.fails)
          (given_up_so accounts standing slots (Begins k) (slice_set logs k new) now holds)

      by : FailsToFlushOrBegin keeps_rules mem_state failures_of DrainsServing serving.state.steps serving.generation e only.mid new serving now
          → Goes accounts standing (Refused e) (Rest slots) (slice_set logs k new) now
      by (inl begins) = ⊎_elim not_flushed (flushed begins.0) begins.1
      by (inr flushes) = not_flushed flushes.1

-- ---- a log is settled

module _ (accounts : Accounts) (standing : Standing) (slots : StoreSlots MemDisk) (settle : Settle) (logs : List (StoreLog MemDisk)) (serving : Serving)
    (h : Holds accounts (Turns (turn_at slots (Settles settle))) standing logs (Some serving)) (log : StoreLog MemDisk) (here : slice_get logs settle.next ≡ Some log)
    (whose : worker_of log ≡ settle.next) (new : StoreLog MemDisk) (now : Serving) where
  pub settle_goes : (mark : ℕ) (later : TurnStage) → BringsUp keeps_rules mem_state failures_of DrainsServing serving.state.steps mark log new serving now → ComesAfter (length (slice_set logs settle.next new)) settle mark later
      → Goes accounts standing CheckTurned (Turns (turn_at slots later)) (slice_set logs settle.next new) now
  settle_goes mark later b after =
      let r = brought accounts standing slots (Settles settle) settle.next logs serving h log here whose new now mark new b in
      turned accounts standing slots (Settles settle) logs serving h (slice_set logs settle.next new) now later
      (settled_holds accounts standing slots settle (slice_set logs settle.next new) now r.holds mark r.reach
      (at_last accounts standing slots (Settles settle) settle.next logs serving h log here whose new now mark new r) later after)

  pub settle_stops : (e : Refusal) → FailsToBringUp keeps_rules mem_state failures_of DrainsServing serving.state.steps e log new serving now → Goes accounts standing (Refused e) (Rest slots) (slice_set logs settle.next new) now
  settle_stops e f = not_brought accounts standing slots (Settles settle) settle.next logs serving h log here whose new now e f

-- ---- an older log is given up

module _ (accounts : Accounts) (standing : Standing) (slots : StoreSlots MemDisk) (k : ℕ) (logs : List (StoreLog MemDisk)) (serving : Serving)
    (h : Holds accounts (Turns (turn_at slots (GivesUp k))) standing logs (Some serving)) (log new : StoreLog MemDisk) (here : slice_get logs k ≡ Some log) where
  pub give_up_goes : TellsGivenUp (Ok tt) log new → k + 1 ≢ length logs → Goes accounts standing CheckTurned (Turns (turn_at slots (GivesUp (k + 1)))) (slice_set logs k new) serving
  give_up_goes gives other =
      turned accounts standing slots (GivesUp k) logs serving h (slice_set logs k new) serving (GivesUp (k + 1))
      (given_holds accounts standing slots k logs serving h log new here gives other)

  pub give_up_ends : TellsGivenUp (Ok tt) log new → k + 1 ≡ length logs → serving.generation < 2 ^ 64 → (on : Serving) → TurnsOn serving on
      → Goes accounts standing TurnEnded (Rest slots) (slice_set logs k new) on
  give_up_ends gives end fits on turns_on = ended_goes accounts standing slots k logs serving h log new here gives end fits on turns_on

  pub give_up_stops : (e : Refusal) → TellsGivenUp (Err e) log new → Goes accounts standing (Refused e) (Rest slots) (slice_set logs k new) serving
  give_up_stops e fails =
      refused accounts standing slots (GivesUp k) logs serving h (slice_set logs k new) serving e (inl (inr fails.does.0))
      (not_given_holds accounts standing slots k logs serving h log new here e fails)

-- ---- places

-- as long as not all logs have begun, there is a next one
pub begins_within : (slots : StoreSlots MemDisk) (k : ℕ) (logs : List (StoreLog MemDisk)) (serving : Serving) → IsHeldBy (Turns (turn_at slots (Begins k))) logs (Some serving) → k ≢ length logs
    → k < length logs
begins_within slots k logs serving held other =
    let le = (at_stage held.0 held.1 slots (Begins k) logs serving held.2).1 in
    let count = held.2.count in
    omega (arith, le, count, other)

-- a Settle has a next log
pub settles_within : (slots : StoreSlots MemDisk) (settle : Settle) (logs : List (StoreLog MemDisk)) (serving : Serving)
    → IsHeldBy (Turns (turn_at slots (Settles settle))) logs (Some serving) → settle.next < length logs
settles_within slots settle logs serving held =
    let lt = (at_stage held.0 held.1 slots (Settles settle) logs serving held.2).0.next in
    let count = held.2.count in
    omega (arith, lt, count)

-- and so has a turn whose older logs are given up
pub gives_up_within : (slots : StoreSlots MemDisk) (k : ℕ) (logs : List (StoreLog MemDisk)) (serving : Serving) → IsHeldBy (Turns (turn_at slots (GivesUp k))) logs (Some serving) → k < length logs
gives_up_within slots k logs serving held =
    let lt = (at_stage held.0 held.1 slots (GivesUp k) logs serving held.2).2 in
    let count = held.2.count in
    omega (arith, lt, count)
