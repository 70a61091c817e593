-- What may be noted of the beginning of a turn and of its checkpoint's parts, and how a store stands then.
use Rattle.std.proofs.Common.{◌≡◌, ◌≢◌, ◌⊎◌, ℕ, ◌<◌, ◌≤◌, ◌^◌, Bool, false, List, [], ◌∷◌, ◌++◌, map, length, Option, Some, None, Result, Ok, Err, Vec, refl, sym, ap, subst, ◌∙◌, arith, inl, inr}
use Rattle.std.proofs.lemmas.{List.append-nil, Option.same_Some, List.Elements.{recursion_from_All, All-from_recursion}}
use Rattle.std.specs.{Prelude.{slice_get, IfOk}, Option.option_map, List.{All, AllByRecursion}, declared.alloc.Global.Global}
use Rattle.mt_rows.specs.{Rows.Bytes, Commands.IsKey, Accounts.{Accounts, numbers_of}, declared.command.Command.Command, declared.command.Command.TheVariants.Scan}
use Rattle.mt_rows.specs.{declared.refusal.Refusal.Refusal, declared.refusal.Refusal.TheVariants.{Memory, Device}}
use Rattle.mt_rows.specs.{declared.reply.Reply.Reply, declared.reply.Reply.TheVariants.{Pairs}, declared.record.TenantPair.TenantPair}
use Rattle.mt_disk.specs.{declared.mem.MemDisk.MemDisk, declared.disk.DeviceFailed.DeviceFailed, Disk.{GoesUp, CountsFailure}, Mem.mem_state}
use Rattle.mt_runs.specs.{declared.event.Event.Event, declared.event.Event.TheVariants.{Begin, Step}, declared.event.Answer.Answer, declared.event.Told.Told}
use Rattle.mt_runs.specs.declared.event.Told.TheVariants.{Begun, Refused as RefusedOne, NoSuch as NoSuchOne, Moved, Again, NoMemory as NoMemoryNow, Spent, Done}
use Rattle.mt_runs.specs.{Runs.{Made, IsBetween, owner}, Scans.IsLawful}
use Rattle.mt_runs.proofs.{Order.order_with_maps, Steps.owner_in}
use Rattle.mt_state.specs.{Views.{map_of, changed_at}, Histories.{IsServed}}
use Rattle.mt_core.specs.Tickets.{named}
use Rattle.mt_checkpoint.specs.{Checkpoints.{IsPair}, Writes.{Stops, FailsToAdd, RefusesPairs, RefusesEnd}, declared.fault.FaultCause.FaultCause}
use Rattle.mt_crashes.specs.{Histories.{Placed}, Walks.{Page, IsFromTo}, SlotDisks.{view_of_walk, slot_now}, Stores.{Store, SlotNow, AllReach}, Invariants.IsStore}
use Rattle.mt_crashes.proofs.{Members.no_some, Invariant.within_place, Walking.lawful_wider}
use Rattle.mt_slots.specs.{declared.slot.Slot.Slot, declared.store_slots.StoreSlots.StoreSlots, declared.checkpointing.Checkpointing.Checkpointing}
use Rattle.mt_slots.specs.declared.fault.SlotFault.{SlotFault}
use Rattle.mt_slots.specs.Places.{at, with, in_order, number_of, disk_of, next_slot, slot_of, given_up, refusal_for}
use Rattle.mt_slots.specs.{Keeps.{Mays, or_none, KeepsWriting}, Calls.{as_write_fault, Begins as BeginsIn, FailsToBeginIn, Adds as AddsTo, FailsToAddIn, Ends as EndsIn, FailsToEndIn, GivesUpIn}}
use Rattle.mt_slots.proofs.{Keeping.{with-this, begun, not_begun, added}, Settling.{not_added, ended, not_ended, gave_up as slots_gave_up}}
use Rattle.mt_checkpoint.specs.declared.fault.FaultCause.TheVariants as FaultCauses
use Rattle.mt_store_logs.specs.declared.store_log.StoreLog.{StoreLog}
use Rattle.mt_pages.specs.{declared.walk.PageWalk.PageWalk, Scans.next_scan, Pages.{TakesAt}, Walked.{Rise, maps_of, Finds}}
use Rattle.mt_pages.proofs.{Walked.{takes, begins_at}, Ascending.rises}
use Rattle.mt_lives.specs.{declared.live_slots.LiveSlots.LiveSlots, declared.live_slots.LiveSlots.TheVariants.{Rest, Turns, Writes, Away}}
use Rattle.mt_lives.specs.{declared.live_slots.TurnStage.TurnStage, declared.live_slots.TurnStage.TheVariants.{Begins as BeginsAt, Settles}}
use Rattle.mt_lives.specs.{declared.live_slots.Check.Check, declared.live_slots.CheckStage.CheckStage, declared.live_slots.CheckStage.TheVariants.{Begins as BeginsNext, Scans, Adds}}
use Rattle.mt_lives.specs.{declared.events.StoreEvent.StoreEvent, declared.events.StoreEvent.TheVariants.{CheckBegin, CheckStep}, declared.events.StoreNote.StoreNote}
use Rattle.mt_lives.specs.declared.events.StoreNote.TheVariants.{CheckBegun, CheckWrites, CheckTold, CheckAdded, CheckEnded, Refused, NoSuch}
use Rattle.mt_lives.specs.{declared.serving.Serving.Serving, Serving.TellsServing}
use Rattle.mt_lives.specs.Lives.{Life, Past, Standing, with_event, firsts, story_in, checking, living, IsMemoryOrDevice, IsOfScan, IsServing, IsNoted}
use Rattle.mt_lives.specs.Checks.{first_of, pending, check_with, IsGivenUp, AfterBegin, AfterReply, AfterStep, TakesPage, IsScanIn, HasScanNow, CheckStands, BeganBy, LiveSlotsStand}
use Rattle.mt_lives.specs.{Bases.{IsWritten, NewestIsBase, EitherIsBase}, Turning.{Turning, part_of, IsSettling, IsAtLog, IsWriting, IsTurning}}
use Rattle.mt_lives.specs.{Parts.{turn_at, in_turn, AreSettledBy, AreFree, MayBegin, settle_from}, Steps.GoesOn, Forced.{HasFailed, SlotFails, IsWriteForced, IsStepForced}}
use Rattle.mt_lives.specs.Holds.{LeadsTo, quotas_of, Holds}
use Rattle.mt_lives.proofs.{Flushing.{keeps_rules, failures_of, within, rests_at_mark, stands_at}, TurnLogs.open_mark, Noting.{life_served, lives_so, held}, Served.{whole, last, pairs_at}}
use Rattle.mt_lives.proofs.{Told.{LivesOn, lives_on, slots_on}, Happening.{serves_none}}
use Rattle.mt_lives.proofs.{Stories.{asked_now, owner_now, finished_now}, SlotReading.{with_slots, told_fault}, Returning.gave_up}
use Rattle.mt_lives.proofs.Bases.{is_come, settled_newest, base_made, written_elsewhere, newly_written, ended_either}
use Rattle.mt_lives.proofs.Checking.{base_now, parts_stay, holds_with, holds_same, begins_in, ends_in_doubt, ends_in, serves_so, is_walk, is_base}

-- when a turn began that is made
pub began : (check : Option ℕ) (n : ℕ) → BeganBy check n → (begun : ℕ) × (check ≡ Some begun) × (begun ≤ n)
began None n by = absurd by
began (Some begun) n by = (begun, refl, by)

-- it began no later than any later step
began_by : (check : Option ℕ) (m n : ℕ) → m ≤ n → BeganBy check m → BeganBy check n
began_by None m n le by = by
began_by (Some begun) m n le by = omega (arith, le, by)

-- so one is made
pub is_made : (check : Option ℕ) (n : ℕ) → BeganBy check n → check ≢ None
is_made check n by none = let b = began check n by in no_some b.0 (sym none ∙ b.1)

-- ---- the disk of its slot failed

-- once, or once more when it was cut
has_failed : (cut : Result (Unit {0}) DeviceFailed) (a b d : ℕ) → GoesUp a b → CountsFailure cut b d → HasFailed a d
has_failed (Ok x) a b d up same = inl (subst (λ n. GoesUp a n) (sym same) up)
has_failed (Err e) a b d up more = inr (b, up, more)

module _ (writing : Checkpointing MemDisk) (walk : PageWalk) (stage : CheckStage) (new : StoreSlots MemDisk) where
  this_disk : disk_of (slot_of writing) (given_up writing) ≡ writing.writer.disk
  this_disk = with-this (slot_of writing) writing.writer.disk writing.other writing.newest writing.owed

  -- for one of the causes that a slot's disk is to blame for, or that are no one's
  write_forced : (cause : FaultCause) → Stops keeps_rules mem_state failures_of writing.writer (as_write_fault cause (disk_of (slot_of writing) new))
      → (cause ≡ FaultCauses.NotAWalk → ⊥) → (cause ≡ FaultCauses.NotReadBack → ⊥) → IsWriteForced (Refused (refusal_for cause)) (Writes (check_with writing walk stage)) (Rest new)
  write_forced FaultCauses.Device stops walks reads =
      let failed = has_failed stops.cut writing.writer.disk.failures stops.failed (disk_of (slot_of writing) new).failures stops.cause stops.gives_up.count in
      (given_up writing, new, refl, refl, (slot_of writing, subst (λ (d : MemDisk). HasFailed d.failures (disk_of (slot_of writing) new).failures) (sym this_disk) failed))
  write_forced FaultCauses.Memory stops walks reads = tt
  write_forced FaultCauses.NotAWalk stops walks reads = absurd (walks refl)
  write_forced FaultCauses.NotReadBack stops walks reads = absurd (reads refl)

-- a checkpoint that began after so many steps stands, if its slot was told that it did
stands_from : (accounts : Accounts) (check : Option ℕ) (now : Result Life Past) (shown : List SlotNow) (history : List Placed) (steps first : ℕ) (c : Check) (mays : Mays) (pairs : List TenantPair)
    → BeganBy check first → shown ≡ map slot_now (in_order mays) → KeepsWriting keeps_rules mem_state failures_of mays first pairs c.writing
    → Finds history first steps c.walk (pairs ++ pending c.stage) → c.walk.tenants.items ≡ numbers_of accounts → 0 < length (numbers_of accounts) → (c.walk.place ≡ 0) ⊎ (first < steps)
    → HasScanNow now first c.walk c.stage → LiveSlotsStand accounts check now shown history steps (Writes c)
stands_from accounts check now shown history steps first c mays pairs is shown_so keeps found all some moved scan =
    let same : first ≡ first_of c = sym keeps.first_is in (
      subst (BeganBy check) same is,
      record {
        mays = mays;
        shown_so = shown_so;
        pairs = pairs;
        keeps = subst (λ n. KeepsWriting keeps_rules mem_state failures_of mays n pairs c.writing) same keeps;
        found = subst (λ n. Finds history n steps c.walk (pairs ++ pending c.stage)) same found;
        all = all;
        some = some;
        moved = subst (λ n. (c.walk.place ≡ 0) ⊎ (n < steps)) same moved;
        scan = subst (λ n. HasScanNow now n c.walk c.stage) same scan;
      },
    )

-- a checkpoint is written as it was, whatever comes next in its walk
still_writing : (turning : Turning) (s : Store) (was is : Check) → is.writing.writer.first ≡ was.writing.writer.first → is.writing.newest ≡ was.writing.newest → IsWriting turning s was
    → IsWriting turning s is
still_writing turning s was is first newest w = record {
  begun = record { all = w.begun.all; starts = subst (λ n. turning.starts ≤ n) (sym first) w.begun.starts };
  covers = subst (λ n. turning.whole.starts ≤ n) (sym first) w.covers;
  reached = subst (λ n. s.reached ≤ n) (sym first) w.reached;
  base = subst (λ (n : Option Slot). NewestIsBase n s turning.whole.starts) (sym newest) w.base;
}

-- a list that is not empty has a first one
no_first : (xs : List ℕ) → 0 < length xs → slice_get xs 0 ≡ None → ⊥
no_first [] some none = absurd (omega (arith, some))
no_first (x ∷ xs) some none = no_some x (sym none)

-- the scan of a tenant
abbrev scan_of : Bytes → Bool → ℕ → ℕ × Command
scan_of from after t = (t, Scan from after 64 [])

-- what a walk tells next
abbrev Tells : Option (ℕ × Command) → Bytes → Bool → Option ℕ → Type 0
Tells x from after o = ◌≡◌ {A = Option (ℕ × Command)} x (option_map (scan_of from after) o)

-- a walk that tells no scan stands at no tenant
pub none_is : (tenants : List ℕ) (place : ℕ) (from : Bytes) (after : Bool) → None ≡ next_scan tenants place from after → slice_get tenants place ≡ None
none_is tenants place from after is = by (slice_get tenants place) is
  where
    by : (o : Option ℕ) → Tells None from after o → o ≡ None
    by None e = refl
    by (Some t) e = absurd (no_some (scan_of from after t) e)

module _ (accounts : Accounts) (standing : Standing) (logs : List (StoreLog MemDisk)) (serving : Serving) where
  abbrev pub Goes : StoreEvent → StoreNote → LiveSlots → Serving → Type 0
  Goes event note now_slots now = (next : Standing) × IsNoted (quotas_of accounts) standing event note next × Holds accounts now_slots next logs (Some now)

  -- ---- a turn begins

  -- what every log goes by, each reaches
  settled_by : (slots : LiveSlots) (h : Holds accounts slots standing logs (Some serving)) (owed : ℕ) → AreSettledBy owed logs → AllReach owed h.s
  settled_by slots h owed (inl none) = λ worker now there front left. omega (arith, none)
  settled_by slots h owed (inr all) = λ worker now there front left.
      let log = within_place logs worker (subst (λ n. worker < n) h.count (within h.s.logs worker now there)) in
      let part = part_of h.turning worker in
      let at = stands_at h.from part h.s serving.state.logs worker now log.0 ((held accounts slots standing logs serving h).each worker now log.0 there log.1) in
      let up = all worker log.0 log.1 in
      let o = open_mark h.from part now log.0 up.0 at up.1 in
      let reaches = rests_at_mark now up.0 o.0 (sym o.1) front left in
      omega (arith, up.2, reaches)

  module _ (slots : StoreSlots MemDisk) (h : Holds accounts (Rest slots) standing logs (Some serving)) where
    resting : IsServing standing
    resting = (life_served accounts (Rest slots) standing logs serving h, lives_so accounts (Rest slots) standing logs serving h)

    rest_begins : AreSettledBy slots.owed logs → 0 < length (numbers_of accounts) → (steps : ℕ) → serving.state.steps ≡ steps
        → Goes CheckBegin (CheckBegun steps) (Turns (turn_at slots (BeginsAt 0))) serving
    rest_begins settled some steps is =
        let life = life_served accounts (Rest slots) standing logs serving h in
        let was = held accounts (Rest slots) standing logs serving h in
        let count = last accounts life h.s serving.state (named serving.roster.tickets) was.serves in
        let made = was.serves.steps in
        let base = base_now accounts (Rest slots) standing logs serving h in (
          checking (Some steps) standing,
          (life, lives_so accounts (Rest slots) standing logs serving h, sym (count ∙ is), h.stand.0, refl),
          holds_same accounts (Rest slots) standing logs serving h h.turning (parts_stay accounts (Rest slots) standing logs serving h) (Some steps) (Turns (turn_at slots (BeginsAt 0))) base.0
              (omega arith, omega arith, settled_newest slots.newest slots.owed h.s h.turning.whole.starts base.1 (settled_by (Rest slots) h slots.owed settled))
              (omega (arith, is, made), some, h.stand.1),
        )

    rest_refused : Goes CheckBegin (Refused Memory) (Rest slots) serving
    rest_refused = (standing, (resting, h.stand.0, refl, refl), h)

  -- if one may
  pub turn_begins : (slots : LiveSlots) → MayBegin accounts logs slots → (steps : ℕ) → serving.state.steps ≡ steps → Holds accounts slots standing logs (Some serving)
      → Goes CheckBegin (CheckBegun steps) (in_turn slots) serving
  turn_begins (Rest slots) may steps is h = rest_begins slots h may.0 may.1 steps is
  turn_begins (Turns turn) may steps is h = absurd may.0
  turn_begins (Writes check) may steps is h = absurd may.0
  turn_begins Away may steps is h = absurd may.0

  pub turn_refused : (slots : LiveSlots) → AreFree logs slots → Holds accounts slots standing logs (Some serving) → Goes CheckBegin (Refused Memory) slots serving
  turn_refused (Rest slots) free h = rest_refused slots h
  turn_refused (Turns turn) free h = absurd free
  turn_refused (Writes check) free h = absurd free
  turn_refused Away free h = absurd free

  -- ---- its checkpoint begins

  module _ (slots : StoreSlots MemDisk) (log : ℕ) (all_so : length logs ≡ log) (h : Holds accounts (Turns (turn_at slots (BeginsAt log))) standing logs (Some serving)) where
    abbrev turning_slots : LiveSlots
    turning_slots = Turns (turn_at slots (BeginsAt log))

    lives : IsServing standing
    lives = (life_served accounts turning_slots standing logs serving h, lives_so accounts turning_slots standing logs serving h)

    is_come_so : IsStore h.s
    is_come_so = is_come (length logs) h.s h.some h.few h.come

    abbrev begun_mays : Mays
    begun_mays = or_none (next_slot slots.newest) h.stand.2.mays

    abbrev begun_shown : List SlotNow
    begun_shown = map slot_now (in_order begun_mays)

    begun_leads : LeadsTo h.s (with_slots begun_shown h.s)
    begun_leads = begins_in h.s h.stand.2.mays (next_slot slots.newest) h.stand.2.shown (serves_so accounts turning_slots standing logs serving h)

    -- no base is in the slot where it begins
    begun_base : (newest : Option Slot) → newest ≡ slots.newest → NewestIsBase newest (with_slots begun_shown h.s) h.turning.whole.starts
    begun_base newest same =
        let mays = h.stand.2.mays in
        subst (λ (n : Option Slot). NewestIsBase n (with_slots begun_shown h.s) h.turning.whole.starts) (sym same)
        (written_elsewhere slots.newest h.turning.whole.starts h.s (with_slots begun_shown h.s) mays (None ∷ at (next_slot slots.newest) mays)
        is_come_so begun_leads h.stand.2.shown refl
        (base_now accounts turning_slots standing logs serving h).1.2)

    pub begin_refused : Goes CheckStep (Refused Memory) (Rest slots) serving
    begin_refused = (
      checking None standing,
      (lives, is_made standing.check h.s.steps h.stand.0, inl (inl refl), refl),
      gave_up accounts turning_slots slots standing logs (Some serving) refl h,
    )

    pub begin_fails : (new : StoreSlots MemDisk) → FailsToBeginIn keeps_rules mem_state failures_of slots new → Goes CheckStep (Refused Device) (Rest new) serving
    begin_fails new fails =
        let stand = h.stand.2 in (
          checking None standing,
          (lives, is_made standing.check h.s.steps h.stand.0, inl (inr refl), refl),
          holds_with accounts turning_slots standing logs serving h h.turning (parts_stay accounts turning_slots standing logs serving h) begun_shown None (Rest new) begun_leads
              (base_now accounts turning_slots standing logs serving h).0
              (inl (begun_base new.newest fails.newest))
              (refl, record { mays = begun_mays; shown = refl; keeps = not_begun keeps_rules mem_state failures_of stand.mays slots new stand.keeps fails }),
        )

    pub begin_goes : (steps : ℕ) (writing : Checkpointing MemDisk) (walk : PageWalk) → serving.state.steps ≡ steps → BeginsIn keeps_rules mem_state failures_of slots steps writing
        → Rise walk.tenants.items → walk.place ≡ 0 → walk.from ≡ [] → walk.after ≡ false → walk.tenants.items ≡ numbers_of accounts
        → Goes CheckStep (CheckWrites steps) (Writes (check_with writing walk BeginsNext)) serving
    begin_goes steps writing walk is b rise place from after all =
        let stand = h.stand.2 in
        let life = life_served accounts turning_slots standing logs serving h in
        let was = held accounts turning_slots standing logs serving h in
        let count = last accounts life h.s serving.state (named serving.roster.tickets) was.serves in
        let base = base_now accounts turning_slots standing logs serving h in
        let now_steps : h.s.steps ≡ steps = sym was.serves.steps ∙ is in
        let made = began standing.check h.s.steps h.stand.0 in
        let first_is : writing.writer.first ≡ steps = b.begun.first_is in
        let over = base_made slots.newest h.s h.turning.whole.starts is_come_so base.1.2 in
        let beyond = is_come_so.beyond in
        let begun_so : IsWriting h.turning (with_slots begun_shown h.s) (check_with writing walk BeginsNext) = record {
          begun = record { all = omega (arith, h.count, all_so, base.1.0); starts = omega (arith, base.0, now_steps, first_is) };
          covers = omega (arith, over, now_steps, first_is);
          reached = omega (arith, beyond, now_steps, first_is);
          base = begun_base writing.newest b.newest;
        } in
        let found : Finds h.s.history steps h.s.steps walk [] =
        subst (λ n. Finds h.s.history steps n walk []) (sym now_steps) (begins_at h.s.history steps walk rise place from after) in (
          standing,
          (life, made.0, lives_so accounts turning_slots standing logs serving h, made.1, omega (arith, made.2, now_steps), sym (count ∙ is), refl),
          holds_with accounts turning_slots standing logs serving h h.turning (parts_stay accounts turning_slots standing logs serving h) begun_shown standing.check
              (Writes (check_with writing walk BeginsNext)) begun_leads base.0 begun_so
              (stands_from accounts standing.check standing.now begun_shown h.s.history h.s.steps steps (check_with writing walk BeginsNext) begun_mays []
              (began_by standing.check h.s.steps steps (omega (arith, now_steps)) h.stand.0) refl
              (begun keeps_rules mem_state failures_of stand.mays steps slots writing stand.keeps b) found all h.stand.1 (inl place)
              (subst (λ (n : Result Life Past). HasScanNow n steps walk BeginsNext) (sym (lives_so accounts turning_slots standing logs serving h)) tt)),
        )

  -- ---- it goes on

  module _ (writing : Checkpointing MemDisk) (walk : PageWalk) (stage : CheckStage) (h : Holds accounts (Writes (check_with writing walk stage)) standing logs (Some serving)) where
    abbrev pub c : Check
    c = check_with writing walk stage

    abbrev pub life : Life
    life = life_served accounts (Writes c) standing logs serving h

    lives_now : IsServing standing
    lives_now = (life, lives_so accounts (Writes c) standing logs serving h)

    stand : CheckStands accounts standing.now h.s.slots h.s.history h.s.steps c
    stand = h.stand.1

    open_so : standing.check ≢ None
    open_so = is_made standing.check (first_of c) h.stand.0

    writes_so : IsWriting h.turning h.s c
    writes_so = (base_now accounts (Writes c) standing logs serving h).1

    -- it is given up
    pub given_so : (e : Refusal) → IsMemoryOrDevice e → (left : StoreSlots MemDisk) → GivesUpIn keeps_rules mem_state failures_of writing left → Goes CheckStep (Refused e) (Rest left) serving
    given_so e memory left gives = (
      checking None standing,
      (lives_now, open_so, inl memory, refl),
      holds_same accounts (Writes c) standing logs serving h h.turning (parts_stay accounts (Writes c) standing logs serving h) None (Rest left)
          (base_now accounts (Writes c) standing logs serving h).0
          (inl (subst (λ (n : Option Slot). NewestIsBase n h.s h.turning.whole.starts) (sym gives.newest) writes_so.base))
          (refl, record { mays = stand.mays; shown = stand.shown_so; keeps = slots_gave_up keeps_rules mem_state failures_of stand.mays (first_of c) stand.pairs writing left stand.keeps gives }),
    )

    -- ---- an event of its scan

    module _ (now : Serving) (e : Event) (told : Told) (tells : TellsServing serving now e told) (served : IsServed (length logs) e) (of_scan : IsOfScan life e) where
      on : LivesOn accounts (Writes c) standing logs serving h now e told
      on = lives_on accounts (Writes c) standing logs serving h now e told tells served

      stands : LiveSlotsStand accounts standing.check (Ok (with_event life e told)) on.t.slots on.t.history on.t.steps (Writes c)
      stands = slots_on accounts (Writes c) standing logs serving h now e told on

      -- after which it goes on
      told_on : (next : LiveSlots) → IsTurning h.from h.turning next on.t → LiveSlotsStand accounts standing.check (Ok (with_event life e told)) on.t.slots on.t.history on.t.steps next
          → Goes CheckStep (CheckTold told) next now
      told_on next base stand = (
        living (with_event life e told) standing,
        (life, e, lives_so accounts (Writes c) standing logs serving h, open_so, of_scan, on.order, inl refl),
        on.holds next standing.check base stand,
      )

      -- with whatever the walk does next
      told_writes : (next : PageWalk) (then : CheckStage)
          → LiveSlotsStand accounts standing.check (Ok (with_event life e told)) on.t.slots on.t.history on.t.steps (Writes (check_with writing next then))
          → Goes CheckStep (CheckTold told) (Writes (check_with writing next then)) now
      told_writes next then stand = told_on (Writes (check_with writing next then)) (still_writing h.turning on.t c (check_with writing next then) refl refl on.turning) stand

      pub told_same : Goes CheckStep (CheckTold told) (Writes c) now
      told_same = told_on (Writes c) on.turning stands

      -- or is given up
      pub told_given_up : (next : LiveSlots) → IsGivenUp writing next → Goes CheckStep (CheckTold told) next now
      told_given_up next (left, at, gives) = subst (λ (x : LiveSlots). Goes CheckStep (CheckTold told) x now) (sym at) (
        living (with_event life e told) (checking None standing),
        (life, e, lives_so accounts (Writes c) standing logs serving h, open_so, of_scan, on.order, inr refl),
        on.holds (Rest left) None (inl (subst (λ (n : Option Slot). NewestIsBase n on.t h.turning.whole.starts) (sym gives.newest) on.turning.base))
            (refl, record { mays = stands.1.mays; shown = stands.1.shown_so; keeps = slots_gave_up keeps_rules mem_state failures_of stands.1.mays (first_of c) stands.1.pairs writing left stands.1.keeps gives }),
      )

  -- ---- a scan begins

  module _ (writing : Checkpointing MemDisk) (walk : PageWalk) (h : Holds accounts (Writes (check_with writing walk BeginsNext)) standing logs (Some serving)) (now : Serving) (name tenant : ℕ)
      (there : slice_get walk.tenants.items walk.place ≡ Some tenant) (told : Told)
      (tells : TellsServing serving now (Begin name 0 tenant (Scan walk.from walk.after 64 [])) told) where
    abbrev begin : Event
    begin = Begin name 0 tenant (Scan walk.from walk.after 64 [])

    abbrev life_now : Life
    life_now = life_served accounts (Writes (check_with writing walk BeginsNext)) standing logs serving h

    served : IsServed (length logs) begin
    served = let some = h.some in omega (arith, some)

    begun_scan : told ≡ Begun → Goes CheckStep (CheckTold told) (Writes (check_with writing walk (Scans name))) now
    begun_scan is =
        let stand = stands writing walk BeginsNext h now begin told tells served refl in
        let was = held accounts (Writes (check_with writing walk BeginsNext)) standing logs serving h in
        let known = subst (λ (t : Told). TellsServing serving now begin t) is tells in
        let free : named serving.roster.tickets name ≡ None = known.tells.1 in
        let scan : IsScanIn (with_event life_now begin Begun) (first_of (check_with writing walk BeginsNext)) walk name = record {
          tenant = tenant;
          there = there;
          asked_so = asked_now life_now.base life_now.run name 0 tenant (Scan walk.from walk.after 64 []) (was.serves.history.free name free);
          since = λ m own.
              absurd (was.serves.history.owners m name (sym (owner_now life_now.base life_now.run name 0 tenant (Scan walk.from walk.after 64 []) m) ∙ own) free);
        } in
        told_writes writing walk BeginsNext h now begin told tells served refl walk (Scans name) (
          stand.0,
          record {
            mays = stand.1.mays;
            shown_so = stand.1.shown_so;
            pairs = stand.1.pairs;
            keeps = stand.1.keeps;
            found = stand.1.found;
            all = stand.1.all;
            some = stand.1.some;
            moved = stand.1.moved;
            scan = subst (λ (t : Told). IsScanIn (with_event life_now begin t) (first_of (check_with writing walk BeginsNext)) walk name) (sym is) scan;
          },
        )

    begin_told : (next : LiveSlots) → AfterBegin writing walk name told next → Goes CheckStep (CheckTold told) next now
    begin_told next after = by told refl after
      where
        given : IsGivenUp writing next → Goes CheckStep (CheckTold told) next now
        given e = told_given_up writing walk BeginsNext h now begin told tells served refl next e

        by : (t : Told) → told ≡ t → AfterBegin writing walk name t next → Goes CheckStep (CheckTold told) next now
        by Begun is e = subst (λ (x : LiveSlots). Goes CheckStep (CheckTold told) x now) (sym e) (begun_scan is)
        by (RefusedOne r) is e = given e
        by NoSuchOne is e = given e
        by Moved is e = given e
        by (Again q) is e = given e
        by NoMemoryNow is e = given e
        by Spent is e = given e
        by (Done a) is e = given e

  -- the walk's next scan, as the walk tells it
  next_is : (tenants : List ℕ) (place : ℕ) (from : Bytes) (after : Bool) (tenant : ℕ) (command : Command) → Some (tenant, command) ≡ next_scan tenants place from after
      → (slice_get tenants place ≡ Some tenant) × (command ≡ Scan from after 64 [])
  next_is tenants place from after tenant command is = by (slice_get tenants place) is
    where
      by : (o : Option ℕ) → Tells (Some (tenant, command)) from after o → (o ≡ Some tenant) × (command ≡ Scan from after 64 [])
      by None e = let x : ℕ × Command = (tenant, command) in absurd (no_some x (sym e))
      by (Some t) e =
          let x : ℕ × Command = (tenant, command) in
          let same : x ≡ scan_of from after t = same_Some x (scan_of from after t) e in
          (ap Some (sym (ap (λ (y : ℕ × Command). y.0) same)), ap (λ (y : ℕ × Command). y.1) same)

  pub begin_goes_on : (writing : Checkpointing MemDisk) (walk : PageWalk) (h : Holds accounts (Writes (check_with writing walk BeginsNext)) standing logs (Some serving)) (now : Serving)
      (name tenant : ℕ) (command : Command) → Some (tenant, command) ≡ next_scan walk.tenants.items walk.place walk.from walk.after → (told : Told)
      → TellsServing serving now (Begin name 0 tenant command) told → (next : LiveSlots) → AfterBegin writing walk name told next → Goes CheckStep (CheckTold told) next now
  begin_goes_on writing walk h now name tenant command is told tells next after =
      let scan = next_is walk.tenants.items walk.place walk.from walk.after tenant command is in
      begin_told writing walk h now name tenant scan.0 told (subst (λ (x : Command). TellsServing serving now (Begin name 0 tenant x) told) scan.1 tells) next after

  -- ---- it makes a step

  module _ (writing : Checkpointing MemDisk) (walk : PageWalk) (name : ℕ) (h : Holds accounts (Writes (check_with writing walk (Scans name))) standing logs (Some serving)) (now : Serving) where
    abbrev scans : Check
    scans = check_with writing walk (Scans name)

    abbrev life_then : Life
    life_then = life_served accounts (Writes scans) standing logs serving h

    scan_so : IsScanIn life_then (first_of scans) walk name
    scan_so = subst (λ (n : Result Life Past). HasScanNow n (first_of scans) walk (Scans name)) (lives_so accounts (Writes scans) standing logs serving h) h.stand.1.scan

    of_scan : IsOfScan life_then (Step name)
    of_scan = (record { tenant = scan_so.tenant; command = Scan walk.from walk.after 64 [] }, scan_so.asked_so, refl)

    module _ (told : Told) (tells : TellsServing serving now (Step name) told) where
      given : (next : LiveSlots) → IsGivenUp writing next → Goes CheckStep (CheckTold told) next now
      given next e = told_given_up writing walk (Scans name) h now (Step name) told tells tt of_scan next e

      stays_open : (next : LiveSlots) → next ≡ Writes scans → Goes CheckStep (CheckTold told) next now
      stays_open next e = subst (λ (x : LiveSlots). Goes CheckStep (CheckTold told) x now) (sym e) (told_same writing walk (Scans name) h now (Step name) told tells tt of_scan)

    -- it has shown a page: that is lawful by the maps of the history
    module _ (answer : Answer) (page : Page) (shows : answer.reply ≡ Pairs page) (tells : TellsServing serving now (Step name) (Done answer)) where
      on_done : LivesOn accounts (Writes scans) standing logs serving h now (Step name) (Done answer)
      on_done = lives_on accounts (Writes scans) standing logs serving h now (Step name) (Done answer) tells tt

      stands_done : LiveSlotsStand accounts standing.check (Ok (with_event life_then (Step name) (Done answer))) on_done.t.slots on_done.t.history on_done.t.steps (Writes scans)
      stands_done = slots_on accounts (Writes scans) standing logs serving h now (Step name) (Done answer) on_done

      abbrev life_done : Life
      life_done = with_event life_then (Step name) (Done answer)

      scan_done : IsScanIn life_done (first_of scans) walk name
      scan_done = stands_done.1.scan

      lawful : IsLawful (maps_of on_done.t.history scan_done.tenant) (IsFromTo (first_of scans) on_done.t.steps) walk.from walk.after 64 [] page
      lawful =
          let story = story_in life_done in
          let serves = on_done.serves in
          let names = named now.roster.tickets in
          let order = order_with_maps (quotas_of accounts) (firsts life_done) story (map_of (whole accounts life_done on_done.t now.state names serves))
          (changed_at (whole accounts life_done on_done.t now.state names serves)) serves.history.right in
          let maps = Rattle.mt_runs.specs.Placings.map_upto (quotas_of accounts) (firsts life_done) story order.0 scan_done.tenant in
          let shown = order.3 name answer (record { tenant = scan_done.tenant; command = Scan walk.from walk.after 64 [] }) (finished_now life_then.base life_then.run name answer) scan_done.asked_so in
          let by_order : IsLawful maps (IsBetween story name) walk.from walk.after 64 [] page =
          subst (λ (r : Reply). Rattle.mt_runs.specs.Scans.IsLawfulScan maps (IsBetween story name) (Scan walk.from walk.after 64 []) r) shows shown in
          let count = last accounts life_done on_done.t now.state names serves in
          let made = serves.steps in
          lawful_wider maps (maps_of on_done.t.history scan_done.tenant) (IsBetween story name) (IsFromTo (first_of scans) on_done.t.steps) walk.from walk.after 64 page
          (λ m b.
          let since = scan_done.since b.0.0 b.0.2 in
          let upto = owner_in story b.1.0 name b.1.2 in
          (omega (arith, since, b.0.1), omega (arith, upto.1, b.1.1, count, made)))
          (λ m b.
          let first = owner_in story b.0.0 name b.0.2 in
          let upto = owner_in story b.1.0 name b.1.2 in
          let from : life_done.base ≤ m = omega (arith, first.0, b.0.1) in
          sym (ap (Rattle.mt_rows.specs.Tenants.tenant_map scan_done.tenant) (pairs_at accounts life_done on_done.t now.state names serves m from)
          ∙ order.4 scan_done.tenant m from (omega (arith, upto.1, b.1.1))))
          by_order

      -- its last step was made after the walk had begun
      since_first : first_of scans < on_done.t.steps
      since_first =
          let story = story_in life_done in
          let end = finished_now life_then.base life_then.run name answer in
          let own : owner story end.0 ≡ Some name = ap (option_map (λ (x : Made). x.op)) end.1 in
          let since = scan_done.since end.0 own in
          let upto = (owner_in story end.0 name own).1 in
          let count = last accounts life_done on_done.t now.state (named now.roster.tickets) on_done.serves in
          let made = on_done.serves.steps in
          omega (arith, since, upto, count, made)

      takes_page : (next : LiveSlots) → TakesPage writing walk page next → Goes CheckStep (CheckTold (Done answer)) next now
      unfolding on on_done
      takes_page next t =
          let taken = subst (λ o. TakesAt o page walk t.next t.pairs.items) scan_done.there t.takes in
          let nothing : stands_done.1.pairs ++ [] ≡ stands_done.1.pairs = append-nil stands_done.1.pairs in
          let found = takes on_done.t.history (first_of scans) on_done.t.steps walk t.next stands_done.1.pairs t.pairs.items scan_done.tenant page
          (subst (λ ps. Finds on_done.t.history (first_of scans) on_done.t.steps walk ps) nothing stands_done.1.found) scan_done.there lawful
          (recursion_from_All IsPair t.pairs.items t.limits) taken in
          subst (λ (x : LiveSlots). Goes CheckStep (CheckTold (Done answer)) x now) (sym t.stands)
          (told_writes writing walk (Scans name) h now (Step name) (Done answer) tells tt of_scan t.next (Adds t.pairs) (
            stands_done.0,
            record {
              mays = stands_done.1.mays;
              shown_so = stands_done.1.shown_so;
              pairs = stands_done.1.pairs;
              keeps = stands_done.1.keeps;
              found = found;
              all = ap (λ (v : Vec ℕ Global). v.items) taken.same ∙ stands_done.1.all;
              some = stands_done.1.some;
              moved = inr since_first;
              scan = tt;
            },
          ))

    after_reply : (answer : Answer) (reply : Reply) → answer.reply ≡ reply → TellsServing serving now (Step name) (Done answer) → (next : LiveSlots) → AfterReply writing walk reply next
        → Goes CheckStep (CheckTold (Done answer)) next now
    after_reply answer (Pairs page) shows tells next (inl takes) = takes_page answer page shows tells next takes
    after_reply answer (Pairs page) shows tells next (inr e) = given (Done answer) tells next e
    after_reply answer reply shows tells next e = given (Done answer) tells next e

    pub step_told : (told : Told) → TellsServing serving now (Step name) told → (next : LiveSlots) → AfterStep writing walk name told next → Goes CheckStep (CheckTold told) next now
    step_told (Done answer) tells next e = after_reply answer answer.reply refl tells next e
    step_told Moved tells next e = stays_open Moved tells next e
    step_told (Again q) tells next e = stays_open (Again q) tells next e
    step_told NoMemoryNow tells next e = stays_open NoMemoryNow tells next e
    step_told Spent tells next e = stays_open Spent tells next e
    step_told Begun tells next e = given Begun tells next e
    step_told (RefusedOne r) tells next e = given (RefusedOne r) tells next e
    step_told NoSuchOne tells next e = given NoSuchOne tells next e

  -- ---- the pairs of a page are added

  module _ (writing : Checkpointing MemDisk) (walk : PageWalk) (pairs : Vec TenantPair Global) (h : Holds accounts (Writes (check_with writing walk (Adds pairs))) standing logs (Some serving)) where
    abbrev adds : Check
    adds = check_with writing walk (Adds pairs)

    pub add_goes : (new : Checkpointing MemDisk) → AddsTo keeps_rules mem_state failures_of writing pairs.items new → Goes CheckStep CheckAdded (Writes (check_with new walk BeginsNext)) serving
    add_goes new a =
        let s = stand writing walk (Adds pairs) h in
        let now_pairs = s.pairs ++ pairs.items in (
          standing,
          (lives_now writing walk (Adds pairs) h, open_so writing walk (Adds pairs) h, refl),
          holds_same accounts (Writes adds) standing logs serving h h.turning (parts_stay accounts (Writes adds) standing logs serving h) standing.check (Writes (check_with new walk BeginsNext))
              (base_now accounts (Writes adds) standing logs serving h).0
              (still_writing h.turning h.s adds (check_with new walk BeginsNext) a.added.first_is a.newest (writes_so writing walk (Adds pairs) h))
              (stands_from accounts standing.check standing.now h.s.slots h.s.history h.s.steps (first_of adds) (check_with new walk BeginsNext) s.mays now_pairs h.stand.0 s.shown_so
              (added keeps_rules mem_state failures_of s.mays (first_of adds) s.pairs pairs.items writing new s.keeps a)
              (subst (λ ps. Finds h.s.history (first_of adds) h.s.steps walk ps) (sym (append-nil now_pairs)) s.found) s.all s.some s.moved
              (subst (λ (n : Result Life Past). HasScanNow n (first_of adds) walk BeginsNext) (sym (lives_so accounts (Writes adds) standing logs serving h)) tt)),
        )

    pub add_fails : (fault : SlotFault) (new : StoreSlots MemDisk) → FailsToAddIn keeps_rules mem_state failures_of fault writing new
        → Goes CheckStep (Refused (refusal_for fault.cause)) (Rest new) serving
    add_fails fault new fails =
        let s = stand writing walk (Adds pairs) h in (
          checking None standing,
          (lives_now writing walk (Adds pairs) h, open_so writing walk (Adds pairs) h, inl (told_fault fault.cause), refl),
          holds_same accounts (Writes adds) standing logs serving h h.turning (parts_stay accounts (Writes adds) standing logs serving h) None (Rest new)
              (base_now accounts (Writes adds) standing logs serving h).0
              (inl (subst (λ (n : Option Slot). NewestIsBase n h.s h.turning.whole.starts) (sym fails.newest) (writes_so writing walk (Adds pairs) h).base))
              (refl, record { mays = s.mays; shown = s.shown_so; keeps = not_added keeps_rules mem_state failures_of s.mays (first_of adds) s.pairs fault writing new s.keeps fails }),
        )

    -- a slot's disk is to blame, if not memory: the pairs rise
    pub add_forced : (cause : FaultCause) (new : StoreSlots MemDisk) → FailsToAdd keeps_rules mem_state failures_of writing.writer (as_write_fault cause (disk_of (slot_of writing) new))
        → RefusesPairs keeps_rules mem_state failures_of writing.writer pairs.items cause → IsWriteForced (Refused (refusal_for cause)) (Writes adds) (Rest new)
    add_forced cause new fails refuses =
        let s = stand writing walk (Adds pairs) h in
        write_forced writing walk (Adds pairs) new cause fails.stops
        (λ e. subst (λ (x : FaultCause). RefusesPairs keeps_rules mem_state failures_of writing.writer pairs.items x) e refuses refl s.pairs s.keeps.writing (rises (s.pairs ++ pairs.items) s.found.ascend))
        (λ e. subst (λ (x : FaultCause). RefusesPairs keeps_rules mem_state failures_of writing.writer pairs.items x) e refuses)

  -- ---- it ends

  module _ (writing : Checkpointing MemDisk) (walk : PageWalk) (h : Holds accounts (Writes (check_with writing walk BeginsNext)) standing logs (Some serving)) (now : ℕ)
      (is : serving.state.steps ≡ now) (most : now ≤ 2 ^ 59) (none : slice_get walk.tenants.items walk.place ≡ None) where
    abbrev end_of : Check
    end_of = check_with writing walk BeginsNext

    made_so : h.s.steps ≡ now
    made_so = sym (held accounts (Writes end_of) standing logs serving h).serves.steps ∙ is

    abbrev found_all : Rattle.mt_checkpoint.specs.Checkpoints.Walk
    found_all = record { first = first_of end_of; last = h.s.steps; pairs = (stand writing walk BeginsNext h).pairs }

    walk_so : Rattle.mt_checkpoint.specs.Checkpoints.IsWalk found_all
    walk_so =
        let s = stand writing walk BeginsNext h in
        is_walk accounts (Writes end_of) standing logs serving h (first_of end_of) walk s.pairs s.found none s.all (omega (arith, made_so, most))

    base_so : Rattle.mt_crashes.specs.Bases.IsBase (first_of end_of) h.s.steps h.s.history (Rattle.mt_rows.specs.TenantPairs.pairs_of (stand writing walk BeginsNext h).pairs)
    base_so =
        let s = stand writing walk BeginsNext h in
        is_base accounts (Writes end_of) standing logs serving h (first_of end_of) walk s.pairs s.found none s.all

    -- it has a scan of some tenant, so a step was made since it began
    moved_so : first_of end_of < h.s.steps
    moved_so = by (stand writing walk BeginsNext h).moved
      where
        by : (walk.place ≡ 0) ⊎ (first_of end_of < h.s.steps) → first_of end_of < h.s.steps
        by (inl at_first) =
            let s = stand writing walk BeginsNext h in
            absurd (no_first walk.tenants.items (subst (λ ts. 0 < length ts) (sym s.all) s.some) (subst (λ n. slice_get walk.tenants.items n ≡ None) at_first none))
        by (inr moved) = moved

    abbrev ended_mays : Mays
    ended_mays = with (slot_of writing) (Some found_all ∷ []) (stand writing walk BeginsNext h).mays

    abbrev ended_shown : List SlotNow
    ended_shown = map slot_now (in_order ended_mays)

    ended_leads : LeadsTo h.s (with_slots ended_shown h.s)
    ended_leads =
        let s = stand writing walk BeginsNext h in
        ends_in h.s s.mays (slot_of writing) s.shown_so (serves_so accounts (Writes end_of) standing logs serving h) found_all s.found.made (omega arith) base_so

    is_store : IsStore h.s
    is_store = is_come (length logs) h.s h.some h.few h.come

    -- it is a checkpoint of what was given up, if that began before it
    ended_written : (starts : ℕ) → starts ≤ first_of end_of → IsWritten (with_slots ended_shown h.s) starts (number_of (slot_of writing)) (view_of_walk found_all)
    ended_written starts le =
        newly_written h.s (stand writing walk BeginsNext h).mays (slot_of writing) found_all starts is_store refl moved_so (writes_so writing walk BeginsNext h).reached le

    ended_settling : (new : StoreSlots MemDisk) → EndsIn keeps_rules mem_state failures_of writing now new
        → IsAtLog h.from h.turning new (with_slots ended_shown h.s) (Settles (settle_from now))
    ended_settling new e =
        let w = writes_so writing walk BeginsNext h in
        let s = stand writing walk BeginsNext h in
        let settling : IsSettling h.turning new.newest (with_slots ended_shown h.s) (settle_from now) = record {
          slot = slot_of writing;
          at = e.newest;
          written = view_of_walk found_all;
          begun = w.begun;
          stands = ended_written h.turning.starts w.begun.starts;
          least = omega (arith, made_so, most);
          next = omega (arith, h.count, h.some);
          before = λ worker lt. absurd (omega (arith, lt));
        } in (
          settling,
          subst (λ (n : Option Slot). EitherIsBase n new.owed (with_slots ended_shown h.s) h.turning.whole.starts) (sym e.newest)
              (ended_either writing new.owed h.s (with_slots ended_shown h.s) s.mays found_all h.turning.whole.starts is_store ended_leads s.shown_so refl w.base
              (ended_written h.turning.whole.starts w.covers) (omega (arith, made_so, e.owed))),
        )

    -- all logs are settled next
    pub end_goes : (new : StoreSlots MemDisk) → EndsIn keeps_rules mem_state failures_of writing now new → Goes CheckStep (CheckEnded now) (Turns (turn_at new (Settles (settle_from now)))) serving
    end_goes new e =
        let s = stand writing walk BeginsNext h in
        let life = life_served accounts (Writes end_of) standing logs serving h in
        let was = held accounts (Writes end_of) standing logs serving h in
        let count = last accounts life h.s serving.state (named serving.roster.tickets) was.serves in
        let made = s.found.made in
        let by = began standing.check (first_of end_of) h.stand.0 in (
          standing,
          (life, by.0, lives_so accounts (Writes end_of) standing logs serving h, by.1, omega (arith, by.2, made, made_so), sym (count ∙ is), refl),
          holds_with accounts (Writes end_of) standing logs serving h h.turning (parts_stay accounts (Writes end_of) standing logs serving h) ended_shown standing.check
              (Turns (turn_at new (Settles (settle_from now)))) ended_leads (base_now accounts (Writes end_of) standing logs serving h).0 (ended_settling new e) (
                began_by standing.check (first_of end_of) h.s.steps made h.stand.0,
                s.some,
                record {
                  mays = ended_mays;
                  shown = refl;
                  keeps = ended keeps_rules mem_state failures_of s.mays found_all writing new s.keeps
                      (subst (λ n. EndsIn keeps_rules mem_state failures_of writing n new) (sym made_so) e);
                },
              ),
        )

    -- a slot's disk is to blame, if not memory: what it has is a walk
    pub end_forced : (fault : SlotFault) (new : StoreSlots MemDisk) → FailsToEndIn keeps_rules mem_state failures_of fault writing now new
        → RefusesEnd keeps_rules mem_state failures_of writing.writer now fault.cause → IsWriteForced (Refused (refusal_for fault.cause)) (Writes end_of) (Rest new)
    end_forced fault new fails refuses =
        let s = stand writing walk BeginsNext h in
        let pairs = s.pairs in
        write_forced writing walk BeginsNext new fault.cause fails.fails.stops
        (λ e. subst (λ (x : FaultCause). RefusesEnd keeps_rules mem_state failures_of writing.writer now x) e refuses refl pairs s.keeps.writing
        (subst (λ n. Rattle.mt_checkpoint.specs.Checkpoints.IsWalk (record { first = first_of end_of; last = n; pairs = pairs })) made_so walk_so))
        (λ e. subst (λ (x : FaultCause). RefusesEnd keeps_rules mem_state failures_of writing.writer now x) e refuses refl pairs s.keeps.writing)

    pub end_fails : (fault : SlotFault) (new : StoreSlots MemDisk) → FailsToEndIn keeps_rules mem_state failures_of fault writing now new
        → Goes CheckStep (Refused (refusal_for fault.cause)) (Rest new) serving
    end_fails fault new fails =
        let s = stand writing walk BeginsNext h in
        let mays = with (slot_of writing) (None ∷ Some found_all ∷ []) s.mays in
        let shown : List SlotNow = map slot_now (in_order mays) in
        let leads = ends_in_doubt h.s s.mays (slot_of writing) s.shown_so (serves_so accounts (Writes end_of) standing logs serving h) found_all s.found.made (omega arith) base_so in (
          checking None standing,
          (lives_now writing walk BeginsNext h, open_so writing walk BeginsNext h, inl (told_fault fault.cause), refl),
          holds_with accounts (Writes end_of) standing logs serving h h.turning (parts_stay accounts (Writes end_of) standing logs serving h) shown None (Rest new) leads
              (base_now accounts (Writes end_of) standing logs serving h).0
              (inl (subst (λ (n : Option Slot). NewestIsBase n (with_slots shown h.s) h.turning.whole.starts) (sym fails.newest)
              (written_elsewhere writing.newest h.turning.whole.starts h.s (with_slots shown h.s) s.mays (None ∷ Some found_all ∷ []) is_store leads s.shown_so refl
              (writes_so writing walk BeginsNext h).base))) (
                refl,
                record {
                  mays = mays;
                  shown = refl;
                  keeps = not_ended keeps_rules mem_state failures_of s.mays found_all fault writing new s.keeps walk_so
                      (subst (λ n. FailsToEndIn keeps_rules mem_state failures_of fault writing n new) (sym made_so) fails);
                },
              ),
        )

-- ---- no turn is made

module _ (accounts : Accounts) (slots now : LiveSlots) (same : slots ≡ now) (logs : List (StoreLog MemDisk)) (serving : Option Serving) where
  abbrev NoneGoes : StoreEvent → Type 0
  NoneGoes event = GoesOn accounts slots now event NoSuch logs serving logs serving

  stays_so : (standing : Standing) → Holds accounts slots standing logs serving → Holds accounts now standing logs serving
  stays_so standing h = subst (λ ss. Holds accounts ss standing logs serving) same h

  pub unserved_step : serving ≡ None → NoneGoes CheckStep
  unserved_step none = λ standing h. (standing, (inl (serves_none accounts slots standing logs (subst (Holds accounts slots standing logs) none h)), refl), stays_so standing h)

  stands_in : (ss : LiveSlots) → slots ≡ ss → (standing : Standing) (h : Holds accounts slots standing logs serving)
      → LiveSlotsStand accounts standing.check standing.now h.s.slots h.s.history h.s.steps ss
  stands_in ss is standing h = subst (LiveSlotsStand accounts standing.check standing.now h.s.slots h.s.history h.s.steps) is h.stand

  pub rest_step : (rest : StoreSlots MemDisk) → slots ≡ Rest rest → NoneGoes CheckStep
  rest_step rest is = λ standing h. (standing, (inr (stands_in (Rest rest) is standing h).0, refl), stays_so standing h)

-- ---- a turn begins, if one may

module _ (accounts : Accounts) (slots : LiveSlots) (logs : List (StoreLog MemDisk)) (was : Option Serving) (serving : Serving) (is : was ≡ Some serving) where
  pub begins_on : (new : LiveSlots) (steps : ℕ) → new ≡ in_turn slots → steps ≡ serving.state.steps → AreFree logs slots → 0 < length (numbers_of accounts)
      → GoesOn accounts slots new CheckBegin (CheckBegun steps) logs was logs was
  begins_on new steps begun made free some =
      subst (λ (s : Option Serving). GoesOn accounts slots new CheckBegin (CheckBegun steps) logs s logs s) (sym is)
      (subst (λ (ss : LiveSlots). GoesOn accounts slots ss CheckBegin (CheckBegun steps) logs (Some serving) logs (Some serving)) (sym begun)
      (λ standing h. turn_begins accounts standing logs serving slots (free, some) steps (sym made) h))

  pub refuses_on : AreFree logs slots → GoesOn accounts slots slots CheckBegin (Refused Memory) logs was logs was
  refuses_on free =
      subst (λ (s : Option Serving). GoesOn accounts slots slots CheckBegin (Refused Memory) logs s logs s) (sym is)
      (λ standing h. turn_refused accounts standing logs serving slots free h)

-- ---- whose disk failed

module _ (old new : StoreSlots MemDisk) where
  pub begin_forced : (stage : TurnStage) → FailsToBeginIn keeps_rules mem_state failures_of old new → SlotFails (Turns (turn_at old stage)) (Rest new)
  begin_forced stage fails = (old, new, refl, refl, (next_slot old.newest, inl fails.fails.count))

-- a checkpoint begins after the last log's part
pub writes_forced : (slots : StoreSlots MemDisk) (log : ℕ) (logs : List (StoreLog MemDisk)) (check : Check) (steps : ℕ) → length logs ≡ log → first_of check ≡ steps
    → IsStepForced (CheckWrites steps) (Turns (turn_at slots (BeginsAt log))) (Writes check) logs logs
writes_forced slots log logs check steps all first = (check, ap BeginsAt (sym all), refl, first, refl)

-- ---- by the stage

pub next_adds : (accounts : Accounts) (logs : List (StoreLog MemDisk)) (writing : Checkpointing MemDisk) (walk : PageWalk) (stage at : CheckStage) (serving : Serving) (now : LiveSlots) (note : StoreNote)
    → stage ≡ at → GoesOn accounts (Writes (check_with writing walk at)) now CheckStep note logs (Some serving) logs (Some serving)
    → GoesOn accounts (Writes (check_with writing walk stage)) now CheckStep note logs (Some serving) logs (Some serving)
next_adds accounts logs writing walk stage at serving now note is goes =
    subst (λ (s : CheckStage). GoesOn accounts (Writes (check_with writing walk s)) now CheckStep note logs (Some serving) logs (Some serving)) (sym is) goes

pub next_goes : {E : Type 0} (writing : Checkpointing MemDisk) (walk : PageWalk) (stage at : CheckStage) (serving now : Serving) (result : Result (LiveSlots × StoreNote) E) → stage ≡ at
    → IfOk result (λ r. (accounts : Accounts) (logs : List (StoreLog MemDisk)) → GoesOn accounts (Writes (check_with writing walk at)) r.0 CheckStep r.1 logs (Some serving) logs (Some now))
    → IfOk result (λ r. (accounts : Accounts) (logs : List (StoreLog MemDisk)) → GoesOn accounts (Writes (check_with writing walk stage)) r.0 CheckStep r.1 logs (Some serving) logs (Some now))
next_goes writing walk stage at serving now (Ok r) is goes = λ accounts logs.
    subst (λ (s : CheckStage). GoesOn accounts (Writes (check_with writing walk s)) r.0 CheckStep r.1 logs (Some serving) logs (Some now)) (sym is) (goes accounts logs)
next_goes writing walk stage at serving now (Err e) is goes = tt

pub step_served : {E : Type 0} (accounts : Accounts) (slots now_slots : LiveSlots) (old new : List (StoreLog MemDisk)) (was : Option Serving) (serving now : Serving) (result : Result StoreNote E)
    → was ≡ Some serving → IfOk result (λ note. GoesOn accounts slots now_slots CheckStep note old (Some serving) new (Some now))
    → IfOk result (λ note. GoesOn accounts slots now_slots CheckStep note old was new (Some now))
step_served accounts slots now_slots old new was serving now (Ok note) is goes =
    subst (λ (s : Option Serving). GoesOn accounts slots now_slots CheckStep note old s new (Some now)) (sym is) goes
step_served accounts slots now_slots old new was serving now (Err e) is goes = tt

-- the pairs that are pending have keys
pub keys_pending : (accounts : Accounts) (standing : Standing) (logs : List (StoreLog MemDisk)) (serving : Serving) (writing : Checkpointing MemDisk) (walk : PageWalk) (pairs : Vec TenantPair Global)
    → Holds accounts (Writes (check_with writing walk (Adds pairs))) standing logs (Some serving) → All (λ p. IsKey p.key) pairs.items
keys_pending accounts standing logs serving writing walk pairs h =
    All-from_recursion (λ (p : TenantPair). IsKey p.key) pairs.items (keys h.stand.1.pairs h.stand.1.found.each)
  where
    rest_keys : (ps : List TenantPair) → AllByRecursion IsPair ps → AllByRecursion (λ (p : TenantPair). IsKey p.key) ps
    rest_keys [] each = tt
    rest_keys (p ∷ ps) each = (each.0.key, rest_keys ps each.1)

    keys : (ps : List TenantPair) → AllByRecursion IsPair (ps ++ pairs.items) → AllByRecursion (λ (p : TenantPair). IsKey p.key) pairs.items
    keys [] each = rest_keys pairs.items each
    keys (p ∷ ps) each = keys ps each.1

-- ---- a checkpoint that was given up

pub not_begun_up : (writing : Checkpointing MemDisk) (walk : PageWalk) (name : ℕ) (told : Told) (slots : LiveSlots) → (told ≡ Begun → ⊥) → IsGivenUp writing slots → AfterBegin writing walk name told slots
not_begun_up writing walk name Begun slots other up = absurd (other refl)
not_begun_up writing walk name told slots other up = up

pub not_shown_up : (writing : Checkpointing MemDisk) (walk : PageWalk) (reply : Reply) (slots : LiveSlots) → IsGivenUp writing slots → AfterReply writing walk reply slots
not_shown_up writing walk (Pairs page) slots up = inr up
not_shown_up writing walk reply slots up = up

pub not_stepped_up : (writing : Checkpointing MemDisk) (walk : PageWalk) (name : ℕ) (told : Told) (slots : LiveSlots)
    → (told ≡ Begun) ⊎ (((e : Refusal) × (told ≡ RefusedOne e)) ⊎ (told ≡ NoSuchOne)) → IsGivenUp writing slots → AfterStep writing walk name told slots
not_stepped_up writing walk name told slots (inl is) up = subst (λ (t : Told). AfterStep writing walk name t slots) (sym is) up
not_stepped_up writing walk name told slots (inr (inl (e, is))) up = subst (λ (t : Told). AfterStep writing walk name t slots) (sym is) up
not_stepped_up writing walk name told slots (inr (inr is)) up = subst (λ (t : Told). AfterStep writing walk name t slots) (sym is) up
