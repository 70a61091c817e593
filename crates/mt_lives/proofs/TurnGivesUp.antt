-- An older log is given up in a turn. After the last one the turn has ended.
use Rattle.std.proofs.{Common.{◌≡◌, ◌≢◌, ◌⊎◌, ℕ, ◌+◌, ◌-◌, ◌^◌, ◌<◌, ◌≤◌, min, true, List, length, Some, None, Ok, Err, refl, sym, ap, subst, ◌∙◌, arith, inl, inr, ⊎_elim}, lemmas.Bool.cases_lt}
use Rattle.std.specs.Prelude.{slice_get, slice_set}
use Rattle.mt_rows.specs.{Accounts.Accounts, declared.refusal.Refusal.Refusal}
use Rattle.mt_disk.specs.{declared.mem.MemDisk.MemDisk, Mem.mem_state}
use Rattle.mt_crashes.specs.{Stores.LogNow}
use Rattle.mt_slots.specs.declared.store_slots.StoreSlots.{StoreSlots}
use Rattle.mt_chain_files.specs.Turns.{FilesNow}
use Rattle.mt_store_logs.specs.declared.store_log.StoreLog.{StoreLog}
use Rattle.mt_store_logs.specs.Ends.{StandsInTurn}
use Rattle.mt_store_logs.proofs.{OlderLaws.{given_up_in_turn, not_given_up_in_turn}, NextTurn.{turned as turned_next}}
use Rattle.mt_lives.specs.{declared.live_slots.LiveSlots.LiveSlots, declared.live_slots.LiveSlots.TheVariants.{Rest, Turns}}
use Rattle.mt_lives.specs.declared.live_slots.TurnStage.TheVariants.{GivesUp}
use Rattle.mt_lives.specs.declared.events.StoreNote.TheVariants.{TurnEnded}
use Rattle.mt_lives.specs.declared.serving.Serving.{Serving}
use Rattle.mt_lives.specs.Lives.{Standing, checking}
use Rattle.mt_lives.specs.{Checks.LiveSlotsStand, Parts.{turn_at, TellsGivenUp, TurnsOn}}
use Rattle.mt_lives.specs.Turning.{Part, IsPart, Turning, part_of, only_whole, IsAtLog}
use Rattle.mt_lives.specs.Holds.{HoldsKept, IsLogAt, EachLog, HoldsServing, Holds}
use Rattle.mt_lives.proofs.Turning.{forget_part, new_part, given_part, not_given_part, on_begins, given_to, others_given, this_given, surely_given}
use Rattle.mt_lives.proofs.{Logged.set_length, Flushing.{keeps_rules, failures_of}, Noting.{life_served, held, found}}
use Rattle.mt_lives.proofs.TurnParts.{Goes, at_stage, each_so, holds_turned, is_next, is_turning, replaced, served, starts_so, with_part}

-- the generation after one, or that one again if 64 bits tell no later one
abbrev pub next_of : ℕ → ℕ
next_of g = min (g + 1) (2 ^ 64 - 1)

one_on : (g : ℕ) → g < 2 ^ 64 → (next_of g ≡ g + 1) ⊎ (next_of g ≡ g)
one_on g fits = ⊎_elim
    (λ (under : g + 1 < 2 ^ 64). inl (omega (arith, under)))
    (λ (over : 2 ^ 64 ≤ g + 1). inr (omega (arith, over, fits)))
    (cases_lt (g + 1) (2 ^ 64))

module _ (accounts : Accounts) (standing : Standing) (slots : StoreSlots MemDisk) (k : ℕ) (logs : List (StoreLog MemDisk)) (serving : Serving)
    (h : Holds accounts (Turns (turn_at slots (GivesUp k))) standing logs (Some serving)) (old new : StoreLog MemDisk) (here : slice_get logs k ≡ Some old) where
  abbrev turn_now : LiveSlots
  turn_now = Turns (turn_at slots (GivesUp k))

  was : HoldsServing h.from h.turning accounts standing.begun (life_served accounts turn_now standing logs serving h) h.s logs serving
  was = held accounts turn_now standing logs serving h

  abbrev now : LogNow
  now = (found accounts turn_now standing logs serving h k old new here).0

  abbrev there : slice_get h.s.logs k ≡ Some now
  there = (found accounts turn_now standing logs serving h k old new here).1

  abbrev At : Part → StoreLog MemDisk → Type 0
  At part log = IsLogAt h.from part h.s serving.state.logs k now log

  at : At (part_of h.turning k) old
  at = was.each k now old there here

  in_stage : IsAtLog h.from h.turning slots h.s (GivesUp k)
  in_stage = at_stage accounts standing slots (GivesUp k) logs serving h

  of_next : old.log.generation ≡ h.from + 1
  of_next = is_next h.from (part_of h.turning k) now at.files old at.stands in_stage.0 at.begins

  at_with : (part : Part) (files : FilesNow) → StandsInTurn keeps_rules mem_state h.from now files new → new.kept ≡ old.kept → IsPart h.from part files → At part new
  at_with part files stands kept begins = record {
    files = files;
    stands = stands;
    begins = begins;
    given_so = at.given_so ∙ ap (λ b. Some (Rattle.mt_store_logs.specs.Shows.drained_upto now b)) (sym kept);
    kept = subst (HoldsKept h.s k) (sym kept) at.kept;
  }

  abbrev given : Turning
  given = given_to k h.turning

  module _ (gives : TellsGivenUp (Ok tt) old new) where
    given_at : At (record (part_of h.turning k) { given = true }) new
    given_at =
        let r = given_up_in_turn keeps_rules mem_state failures_of h.from now at.files old new at.stands of_next gives in
        at_with (record (part_of h.turning k) { given = true }) r.0 r.1 gives.kept (given_part h.from (part_of h.turning k) at.files r.0 in_stage.0 r.2 r.3 at.begins)

    each_given : EachLog (λ worker. IsLogAt h.from (part_of given worker) h.s serving.state.logs worker) h.s (slice_set logs k new)
    each_given =
        replaced h.s logs k old new now there here
        (with_part h.from (record (part_of h.turning k) { given = true }) (part_of given k) h.s serving.state.logs k now new (λ files p. this_given h.from h.turning k files p) given_at)
        (λ j n log lt other a. with_part h.from (part_of h.turning j) (part_of given j) h.s serving.state.logs j n log (λ files p. others_given h.from h.turning k j files in_stage.1 other p) a)
        was.each

    pub given_holds : k + 1 ≢ length logs → Holds accounts (Turns (turn_at slots (GivesUp (k + 1)))) standing (slice_set logs k new) (Some serving)
    given_holds other =
        let lt = in_stage.2 in
        let count = h.count in
        holds_turned accounts turn_now standing logs serving h h.from given (Turns (turn_at slots (GivesUp (k + 1)))) standing.check (slice_set logs k new) serving refl refl refl was.turns_to
        (set_length logs k new) (starts_so accounts turn_now standing logs serving h) (in_stage.0, omega arith, omega (arith, lt, count, other), in_stage.3) h.stand each_given

    -- All older logs are given up: the turn has ended, and the next one goes from the next generation.
    module _ (end : k + 1 ≡ length logs) (fits : serving.generation < 2 ^ 64) (on : Serving) (turns_on : TurnsOn serving on) where
      abbrev turned_on : Serving
      turned_on = record serving { generation = next_of serving.generation }

      lt_all : (j : ℕ) → j < length h.s.logs → j < given.given
      lt_all j lt = let count = h.count in omega (arith, lt, count, end)

      each_on : EachLog (λ worker. IsLogAt (h.from + 1) (part_of (only_whole h.turning.whole) worker) h.s serving.state.logs worker) h.s (slice_set logs k new)
      each_on = each_so h.s (slice_set logs k new) on_one each_given
        where
          on_one : (j : ℕ) (n : LogNow) (log : StoreLog MemDisk) → j < length h.s.logs → IsLogAt h.from (part_of given j) h.s serving.state.logs j n log
              → IsLogAt (h.from + 1) (part_of (only_whole h.turning.whole) j) h.s serving.state.logs j n log
          on_one j n log lt a =
              let spare = surely_given h.from given j a.files (lt_all j lt) a.begins in
              let r = turned_next keeps_rules mem_state h.from n a.files log a.stands spare in
              record {
                files = a.files;
                stands = r.0;
                begins = new_part (h.from + 1) h.turning.whole j a.files (on_begins h.from h.turning.whole a.files spare r.1 a.begins.whole);
                given_so = a.given_so;
                kept = a.kept;
              }

      stand_rest : LiveSlotsStand accounts None standing.now h.s.slots h.s.history h.s.steps (Rest slots)
      stand_rest = (refl, h.stand.2)

      ended_by : (next_of serving.generation ≡ serving.generation + 1) ⊎ (next_of serving.generation ≡ serving.generation)
          → Holds accounts (Rest slots) (checking None standing) (slice_set logs k new) (Some turned_on)
      ended_by (inl more) =
          holds_turned accounts turn_now standing logs serving h (h.from + 1) (only_whole h.turning.whole) (Rest slots) None (slice_set logs k new) turned_on refl refl refl
          (more ∙ ap (λ n. n + 1) was.turns_to) (set_length logs k new) (omega arith) (inl in_stage.3) stand_rest each_on
      ended_by (inr same) =
          holds_turned accounts turn_now standing logs serving h h.from given (Rest slots) None (slice_set logs k new) turned_on refl refl refl
          (same ∙ was.turns_to) (set_length logs k new) (starts_so accounts turn_now standing logs serving h) (inl in_stage.3) stand_rest each_given

      pub ended_goes : Goes accounts standing TurnEnded (Rest slots) (slice_set logs k new) on
      ended_goes = (
        checking None standing,
        (served accounts turn_now standing logs serving h, is_turning accounts standing slots (GivesUp k) logs serving h, refl),
        subst (λ (x : Serving). Holds accounts (Rest slots) (checking None standing) (slice_set logs k new) (Some x)) (sym turns_on) (ended_by (one_on serving.generation fits)),
      )

  -- it is not, and may be there or not
  pub not_given_holds : (e : Refusal) → TellsGivenUp (Err e) old new → Holds accounts (Rest slots) (checking None standing) (slice_set logs k new) (Some serving)
  not_given_holds e fails =
      let r = not_given_up_in_turn keeps_rules mem_state failures_of h.from now at.files e old new at.stands of_next fails in
      let rest = only_whole h.turning.whole in
      let kept = not_given_part h.from (part_of h.turning k) at.files r.0 in_stage.0 r.2 at.begins in
      holds_turned accounts turn_now standing logs serving h h.from rest (Rest slots) None (slice_set logs k new) serving refl refl refl was.turns_to (set_length logs k new) (omega arith)
      (inl in_stage.3) (refl, h.stand.2)
      (replaced h.s logs k old new now there here (at_with (part_of rest k) r.0 r.1 fails.kept (new_part h.from h.turning.whole k r.0 kept.whole))
      (λ j n log lt other a. with_part h.from (part_of h.turning j) (part_of rest j) h.s serving.state.logs j n log (λ files p. forget_part h.from h.turning j files p) a) was.each)
