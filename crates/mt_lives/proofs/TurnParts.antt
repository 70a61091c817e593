-- How all of it holds of a store as its turn goes on by a log's part, and what is noted of that.
use Rattle.std.proofs.Common.{◌≡◌, ◌≢◌, ◌⊎◌, ⊎_elim, ℕ, ◌+◌, ◌<◌, ◌≤◌, true, false, List, length, Option, Some, None, Result, Ok, refl, sym, ap, subst, ◌∙◌, inl, inr}
use Rattle.std.proofs.lemmas.{Bool.cases_eq, Option.same_Some}
use Rattle.std.specs.Prelude.{slice_get, slice_set}
use Rattle.mt_rows.specs.{Accounts.Accounts, declared.refusal.Refusal.Refusal}
use Rattle.mt_disk.specs.{declared.mem.MemDisk.MemDisk, Mem.mem_state}
use Rattle.mt_log.specs.Contents.{Contents, JoinsAndRises, mark_of}
use Rattle.mt_core.specs.Tickets.{named}
use Rattle.mt_state.specs.{Views.StateView, Histories.AreById}
use Rattle.mt_crashes.{specs.{Stores.{Store, LogNow}, Invariants.IsStore}, proofs.Members.no_some}
use Rattle.mt_slots.specs.declared.store_slots.StoreSlots.{StoreSlots}
use Rattle.mt_log_files.specs.Files.{FileNow, Spare, Has, MayHave, MayLeaveFile}
use Rattle.mt_chain_files.{specs.Turns.{FilesNow, now_of}, proofs.Reading.found_next}
use Rattle.mt_store_logs.specs.declared.store_log.StoreLog.{StoreLog}
use Rattle.mt_store_logs.specs.Ends.{StandsInTurn, IsNextFile}
use Rattle.mt_lives.specs.{declared.live_slots.LiveSlots.LiveSlots, declared.live_slots.LiveSlots.TheVariants.{Rest, Turns}}
use Rattle.mt_lives.specs.declared.live_slots.TurnStage.{TurnStage}
use Rattle.mt_lives.specs.{declared.events.StoreEvent.TheVariants.CheckStep, declared.events.StoreNote.StoreNote, declared.events.StoreNote.TheVariants.{CheckTurned, Refused}}
use Rattle.mt_lives.specs.declared.serving.Serving.{Serving}
use Rattle.mt_lives.specs.Lives.{Life, Past, Standing, checking, StopsTurn, IsServing, IsNoted}
use Rattle.mt_lives.specs.{Checks.{BeganBy, LiveSlotsStand}, Parts.turn_at}
use Rattle.mt_lives.specs.Turning.{Part, IsPart, Turning, part_of, IsAtLog, IsTurning, StandsOnBase}
use Rattle.mt_lives.specs.Holds.{quotas_of, HasCome, IsLogAt, EachLog, Serves, AreSettles, HoldsServing, HoldsNow, Holds}
use Rattle.mt_lives.proofs.{Bases.is_come, Comes.set_there, Logged.set_other, Flushing.{keeps_rules, within}, Noting.{life_served, lives_so, held}}
use Rattle.mt_lives.proofs.Returning.{gave_up}

-- ---- one log is another one

-- What holds of each log but one, and of what stands in its place.
pub replaced : {P Q : ℕ → LogNow → StoreLog MemDisk → Type 0} (s : Store) (logs : List (StoreLog MemDisk)) (worker : ℕ) (old new : StoreLog MemDisk) (at : LogNow)
    → slice_get s.logs worker ≡ Some at → slice_get logs worker ≡ Some old → Q worker at new
    → ((k : ℕ) (now : LogNow) (log : StoreLog MemDisk) → k < length s.logs → k ≢ worker → P k now log → Q k now log) → EachLog P s logs → EachLog Q s (slice_set logs worker new)
replaced {P} {Q} s logs worker old new at there here this others all k now log is_now is_log = by (cases_eq k worker)
  where
    by : (k ≡ worker) ⊎ (k ≢ worker) → Q k now log
    by (inl same) =
        let n : at ≡ now = same_Some at now (sym there ∙ subst (λ j. slice_get s.logs j ≡ Some now) same is_now) in
        let l : new ≡ log = same_Some new log (sym (set_there logs worker old new here) ∙ subst (λ j. slice_get (slice_set logs worker new) j ≡ Some log) same is_log) in
        subst (λ (x : StoreLog MemDisk). Q k now x) l (subst (λ (x : LogNow). Q k x new) n (subst (λ j. Q j at new) (sym same) this))
    by (inr other) = others k now log (within s.logs k now is_now) other (all k now log is_now (sym (set_other logs worker k new other) ∙ is_log))

-- what holds of each log anyhow
pub each_so : {P Q : ℕ → LogNow → StoreLog MemDisk → Type 0} (s : Store) (logs : List (StoreLog MemDisk))
    → ((k : ℕ) (now : LogNow) (log : StoreLog MemDisk) → k < length s.logs → P k now log → Q k now log) → EachLog P s logs → EachLog Q s logs
each_so s logs so all k now log is_now is_log = so k now log (within s.logs k now is_now) (all k now log is_now is_log)

-- a log's part with other facts of its files
pub with_part : (g : ℕ) (old new : Part) (s : Store) (given : List ℕ) (worker : ℕ) (now : LogNow) (log : StoreLog MemDisk)
    → ((files : FilesNow) → IsPart g old files → IsPart g new files) → IsLogAt g old s given worker now log → IsLogAt g new s given worker now log
with_part g old new s given worker now log so at =
    record { files = at.files; stands = at.stands; begins = so at.files at.begins; given_so = at.given_so; kept = at.kept }

-- the last log is of the turn's first generation, or of the next one
pub which : (g : ℕ) (now : LogNow) (files : FilesNow) (log : StoreLog MemDisk) → StandsInTurn keeps_rules mem_state g now files log → (log.log.generation ≡ g) ⊎ (log.log.generation ≡ g + 1)
which g now files log s = ⊎_elim (λ first. inl first.0) (λ next. inr next.0) s.in_turn

-- of the next one, if that stands whole: else none may be left of it
none_left : (flag : _) (now : LogNow) (file : FileNow) (log : StoreLog MemDisk) → IsNextFile flag now file log → MayLeaveFile file None
none_left false now file log spare = subst (λ (f : FileNow). MayLeaveFile f None) (sym spare) refl
none_left true now file log may = ⊎_elim
    (λ spare. subst (λ (f : FileNow). MayLeaveFile f None) (sym spare) refl)
    (λ c. subst (λ (f : FileNow). MayLeaveFile f None) (sym c.1) (inl refl))
    may.may

something : (file : FileNow) → (x : Option Contents) × MayLeaveFile file x
something Spare = (None, refl)
something (Has now) = (Some now.had, (now.had, inl refl, refl))
something (MayHave c) = (None, inl refl)

pub is_next : (g : ℕ) (part : Part) (now : LogNow) (files : FilesNow) (log : StoreLog MemDisk) → StandsInTurn keeps_rules mem_state g now files log → part.whole.generation ≡ g + 1 → IsPart g part files
    → log.log.generation ≡ g + 1
is_next g part now files log s whole p = ⊎_elim (λ first. absurd (no first)) (λ next. next.0) s.in_turn
  where
    no : (log.log.generation ≡ g) × IsNextFile log.next_in_doubt now (now_of (g + 1) files) log → ⊥
    no first =
        let x = something (now_of g files) in
        let c = p.whole x.0 None x.1 (none_left log.next_in_doubt now (now_of (g + 1) files) log first.1) in
        no_some c.0 (sym (ap (Rattle.mt_log_files.specs.Workers.standing_of g x.0 None) whole ∙ found_next g x.0 None) ∙ c.1)

first_of_two : {A B : Type 0} → A × B → A
first_of_two p = p.0

second_of_two : {A B : Type 0} → A × B → B
second_of_two p = p.1

-- ---- the store

module _ (accounts : Accounts) (slots : LiveSlots) (standing : Standing) (logs : List (StoreLog MemDisk)) (serving : Serving) (h : Holds accounts slots standing logs (Some serving)) where
  abbrev life : Life
  life = life_served accounts slots standing logs serving h

  abbrev lives : standing.now ≡ Ok life
  lives = lives_so accounts slots standing logs serving h

  pub served : IsServing standing
  served = (life, lives)

  -- how far its turn is
  stands_so : (h.turning.starts ≤ h.s.steps) × IsTurning h.from h.turning slots h.s
  stands_so = subst (λ (n : Result Life Past). StandsOnBase n h.from h.turning slots h.s) lives h.base

  pub starts_so : h.turning.starts ≤ h.s.steps
  starts_so = first_of_two stands_so

  pub turning_so : IsTurning h.from h.turning slots h.s
  turning_so = second_of_two stands_so

  pub is_store : IsStore h.s
  is_store = is_come (length logs) h.s h.some h.few h.come

  -- a log's batches rise up to its mark, which is at most the last step
  pub rises_so : (worker : ℕ) (now : LogNow) → slice_get h.s.logs worker ≡ Some now → JoinsAndRises now.had × (mark_of now.had ≤ h.s.steps)
  rises_so worker now there = let f = is_store.logs worker now there now.had (inl refl) in (f.joins, f.made)

  -- All of it holds with other logs and slots, as far as the turn is now.
  pub holds_turned : (g : ℕ) (turning : Turning) (now_slots : LiveSlots) (check : Option ℕ) (now_logs : List (StoreLog MemDisk)) (now : Serving) → now.state ≡ serving.state
      → now.roster ≡ serving.roster → now.settles ≡ serving.settles → now.generation ≡ g + 1 → length now_logs ≡ length logs → turning.starts ≤ h.s.steps → IsTurning g turning now_slots h.s
      → LiveSlotsStand accounts check standing.now h.s.slots h.s.history h.s.steps now_slots
      → EachLog (λ worker. IsLogAt g (part_of turning worker) h.s serving.state.logs worker) h.s now_logs → Holds accounts now_slots (checking check standing) now_logs (Some now)
  holds_turned g turning now_slots check now_logs now state roster settles to len starts turns stand each =
      let was = held accounts slots standing logs serving h in
      let holds_now : HoldsServing g turning accounts standing.begun life h.s now_logs now = record {
        serves =
            subst (λ r. Serves accounts life h.s now.state (named r.tickets)) (sym roster)
            (subst (λ v. Serves accounts life h.s v (named serving.roster.tickets)) (sym state) was.serves);
        by_id = subst (λ r. AreById r.names (named r.tickets)) (sym roster) was.by_id;
        each = subst (λ (v : StateView). EachLog (λ worker. IsLogAt g (part_of turning worker) h.s v.logs worker) h.s now_logs) (sym state) each;
        turns_to = to;
        settles = subst (AreSettles h.s standing.begun) (sym settles) was.settles;
      } in
      record {
        s = h.s;
        from = g;
        turning = turning;
        some = subst (λ n. 0 < n) (sym len) h.some;
        few = subst (λ n. n ≤ 64) (sym len) h.few;
        come = subst (λ n. HasCome n h.s) (sym len) h.come;
        count = h.count ∙ sym len;
        stand = stand;
        base = subst (λ (n : Result Life Past). StandsOnBase n g turning now_slots h.s) (sym lives) (starts, turns);
        settled = h.settled;
        keeps = h.keeps;
        now = subst (λ (n : Result Life Past). HoldsNow g turning accounts standing.begun n h.s now_logs (Some now)) (sym lives) holds_now;
      }

began_some : (check : Option ℕ) (n : ℕ) → BeganBy check n → check ≢ None
began_some None n began e = began
began_some (Some begun) n began e = no_some begun (sym e)

-- ---- where a turn goes

module _ (accounts : Accounts) (standing : Standing) where
  -- the note may be, and the store stands so then
  abbrev pub Goes : StoreNote → LiveSlots → List (StoreLog MemDisk) → Serving → Type 0
  Goes note now_slots now_logs now = (next : Standing) × IsNoted (quotas_of accounts) standing CheckStep note next × Holds accounts now_slots next now_logs (Some now)

  module _ (slots : StoreSlots MemDisk) (stage : TurnStage) (logs : List (StoreLog MemDisk)) (serving : Serving) (h : Holds accounts (Turns (turn_at slots stage)) standing logs (Some serving)) where
    abbrev turn_now : LiveSlots
    turn_now = Turns (turn_at slots stage)

    pub at_stage : IsAtLog h.from h.turning slots h.s stage
    at_stage = turning_so accounts turn_now standing logs serving h

    pub is_turning : standing.check ≢ None
    is_turning = began_some standing.check h.s.steps h.stand.0

    -- it goes on at another stage
    pub turned : (now_logs : List (StoreLog MemDisk)) (now : Serving) (later : TurnStage) → Holds accounts (Turns (turn_at slots later)) standing now_logs (Some now)
        → Goes CheckTurned (Turns (turn_at slots later)) now_logs now
    turned now_logs now later holds = (standing, (served accounts turn_now standing logs serving h, is_turning, refl), holds)

    -- or it is given up
    pub refused : (now_logs : List (StoreLog MemDisk)) (now : Serving) (e : Refusal) → StopsTurn e → Holds accounts (Rest slots) (checking None standing) now_logs (Some now)
        → Goes (Refused e) (Rest slots) now_logs now
    refused now_logs now e why holds = (checking None standing, (served accounts turn_now standing logs serving h, is_turning, why, refl), holds)

    pub given_up_so : Holds accounts (Rest slots) (checking None standing) logs (Some serving)
    given_up_so = gave_up accounts turn_now slots standing logs (Some serving) refl h
