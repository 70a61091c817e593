-- What a recovery makes of a store that a crash left, in each of its outcomes.
use Rattle.std.proofs.Common.{◌≡◌, ◌≢◌, ◌⊎◌, false, ℕ, ◌+◌, ◌<◌, ◌≤◌, ◌^◌, min, Result, List, map, length, Option, Some, None, Ok, Err, refl, sym, ap, subst, ◌∙◌, arith, inl, inr, ⊎_elim}
use Rattle.std.proofs.{lemmas.List.Elements.All-weaker}
use Rattle.std.specs.{Prelude.{IfOk, slice_get}, List.{All, AllZip}}
use Rattle.mt_rows.specs.{Accounts.Accounts, TenantPairs.{pairs_of, quota_in}, declared.refusal.Refusal.Refusal}
use Rattle.mt_disk.specs.{declared.mem.MemDisk.MemDisk, Mem.mem_state}
use Rattle.mt_log.specs.{declared.batch.Front.Front, Contents.{Contents, contents_of}}
use Rattle.mt_chain_files.specs.declared.opening.Chains.{Chains}
use Rattle.mt_core.specs.{Restores.IsRestored, Rights.IsRightState}
use Rattle.mt_state.specs.Views.{StateView}
use Rattle.mt_crashes.specs.{Fronts.cutoff_of, Histories.{Placed, pairs_upto}, Bases.Slots, Recoveries.resume_of, Stores.{Store, at_rest as log_at_rest, only_this, MayLeaveSlots}}
use Rattle.mt_generations.specs.Chains.{Chain, EndsLog, BeginBy, HasUse, IsRecoveredOver}
use Rattle.mt_turns.specs.declared.worker_log.WorkerLog.{WorkerLog}
use Rattle.mt_recover.{specs.{Refusals.IsRefusal, declared.recovering.Recovered.{Recovered as Found}}, proofs.Limits.resume_within}
use Rattle.mt_checkpoint.specs.declared.checkpoint.Checkpoint.{Checkpoint}
use Rattle.mt_slots.specs.{declared.store_slots.StoreSlots.StoreSlots, declared.fault.SlotFault.SlotFault, Places.{Both, in_order, with_newest, refusal_for}}
use Rattle.mt_slots.specs.Calls.{ReadsBoth, StopsReading}
use Rattle.mt_store_logs.specs.{declared.fault.LogRefusal.LogRefusal, declared.fault.StoreRefusal.StoreRefusal}
use Rattle.mt_store_logs.specs.{declared.fault.StoreRefusal.TheVariants.{Logs as OfLogs, Slot as OfSlot}, declared.store_log.StoreLog.StoreLog}
use Rattle.mt_store_logs.specs.Taking.{files_of, OpensLogs, StopsOpening}
use Rattle.mt_store_logs.specs.{Leaves.{NoneBegun, StopsGivingUpAt, LeavesOne}, Recovers.{slots_of, used_slot, refusal_in, ResumesAll, StopsResumingAt, ServesAgain}}
use Rattle.mt_store_logs.specs.{Recovers.{IsRecoveredOf, IsRefusedOf, ResumesInPart, GivesUpInPart, StopsAfterSlots, StopsInFirst, StopsAgain, IsNotRecovered}, Rereads.{KeepRules, LogsAreRead, SlotsStay}}
use Rattle.mt_store_logs.proofs.{ChainFormat.chains_in_format, ForResumes.{both_in_format, cutoff_within}}
use Rattle.mt_lives.specs.{declared.events.CrashImages.CrashImages, declared.events.StoreEvent.StoreEvent, declared.events.StoreEvent.TheVariants.Crash, declared.events.StoreNote.StoreNote}
use Rattle.mt_lives.specs.{declared.events.StoreNote.TheVariants.{Recovered, Refused, NoSuch}, declared.serving.Serving.Serving}
use Rattle.mt_lives.specs.Lives.{Life, Past, Standing, past_of, life_from, MayKeep, AreLeftOf, IsMemoryOrDevice, checking, crashed_to, IsNoted}
use Rattle.mt_lives.specs.{declared.live_slots.LiveSlots.LiveSlots, declared.live_slots.LiveSlots.TheVariants.{Rest, Turns, Writes, Away}}
use Rattle.mt_lives.specs.{Checks.{at_rest, SlotsStand}, Holds.{quotas_of, HasCome, LeadsTo, HoldsServing, Holds}, Forced.{AllCrash, IsCrashForced}}
use Rattle.mt_lives.specs.{Returns.{IsFresh, Begins, AreRecovered, AreNotRecovered}, Steps.{GoesOn, CrashesTo}}
use Rattle.mt_lives.proofs.{Comes.comes_on, Logged.all_on, Flushing.{keeps_rules, failures_of, within}, Walking.with_logs, Leaving.{AllDown, IsLeft, left_on}}
use Rattle.mt_lives.proofs.SlotReading.{told_fault, stand_unread, with_slots, AreSure, stand_sure, slots_rest, stand_used}
use Rattle.mt_lives.proofs.{Crashing.{holds_left, Leaves, leaves}, Opening.{AllOpen, all_open_down}}
use Rattle.mt_lives.proofs.Recovering.{recovers_to, sure_leaves, recovered_from, kept_upto, refused, found_so, found_left, settled_kept, keeps_upto, left_recovered}
use Rattle.mt_lives.proofs.{Resuming.{all_resumed, resumed_in_part}, Living.{RestAt, served, serves_now, made_upto, begins_restored, begins_serving}}
use Rattle.mt_lives.proofs.Opening as opening
use Rattle.mt_lives.proofs.Resuming as resuming
use Rattle.mt_crashes.{specs.Invariants.IsStore, proofs.Invariant.within_place}
use Rattle.mt_generations.specs.Turns.{HasBase}
use Rattle.mt_lives.{specs.{Bases.{Whole, NewestIsBase}, Turning.only_whole}, proofs.Bases.{is_come, base_stays, newest_stays, base_read, base_rests, some_base, use_covers, used_newest}}
use Rattle.mt_lives.proofs.{LeavingOne.{left_len, left_open, left_in_part}, Rereading.read_down}

-- ---- lengths

resuming_len : (kept to : ℕ) (at : Option ℕ) (e : Refusal) (old new : List (StoreLog MemDisk)) → StopsResumingAt keeps_rules mem_state failures_of kept to at e old new → length new ≡ length old
resuming_len kept to None e old new stops = absurd stops
resuming_len kept to (Some place) e old new stops = stops.len

module _ (accounts : Accounts) (slots : StoreSlots MemDisk) (standing : Standing) (old : List (StoreLog MemDisk)) (from : Leaves accounts slots standing old) where
  abbrev s : Store
  s = from.s

  -- the turn that the logs are in, and the generation that stands whole
  abbrev g : ℕ
  g = from.from

  abbrev h : Whole
  h = from.whole

  abbrev past : Past
  past = past_of standing.now

  abbrev IsLeftAs : Past → Store → Type 0
  IsLeftAs past_now t = IsLeft accounts standing.settled past_now (length old) t

  is_left : (past_now : Past) (t : Store) → IsLeftAs past_now t → IsStore t
  is_left past_now t l = is_come (length old) t l.some l.few l.come

  -- the disks keep the rules, so what is read again is what was seen first
  rules : (mid : List (StoreLog MemDisk)) → KeepRules keeps_rules mem_state failures_of mid slots
  rules mid = record { files = λ k log at g disk on. refl; mays = from.stand.mays; both = from.stand.keeps }

  over_seen : (mid : List (StoreLog MemDisk)) (seen : Slots) (fronts : List Front) (r : Found) → IsRecoveredOf (KeepRules keeps_rules mem_state failures_of mid slots) accounts seen fronts r
      → IsRecoveredOver (map contents_of fronts) seen r.cutoff r.resume r.used (pairs_of r.pairs.items)
  over_seen mid seen fronts r is =
      let same = is.again.same (rules mid) in
      subst (λ (ls : Slots). IsRecoveredOver (map contents_of fronts) ls r.cutoff r.resume r.used (pairs_of r.pairs.items)) same.1
      (subst (λ (cs : List Contents). IsRecoveredOver cs is.loaded r.cutoff r.resume r.used (pairs_of r.pairs.items)) same.0 is.over)

  refused_seen : (e : LogRefusal) (seen : Slots) (new : List (StoreLog MemDisk)) (is : IsRefusedOf keeps_rules mem_state failures_of accounts e slots seen old new)
      → IsRefusal (map contents_of is.chains.fronts.items) seen (quota_in accounts) e.refusal
  refused_seen e seen new is =
      let same = is.again.same (rules new) in
      subst (λ (ls : Slots). IsRefusal (map contents_of is.chains.fronts.items) ls (quota_in accounts) e.refusal) same.1
      (subst (λ (cs : List Contents). IsRefusal cs is.loaded (quota_in accounts) e.refusal) same.0 is.refused)

  -- why a second reading stops
  stopped_cause : (e : StoreRefusal) (mid : List (StoreLog MemDisk)) → StopsAgain (KeepRules keeps_rules mem_state failures_of mid slots) e → IsMemoryOrDevice (refusal_in e)
  stopped_cause (OfLogs e) mid (inl fault) = fault.0
  stopped_cause (OfSlot fault) mid (inl told) = told_fault fault.cause
  stopped_cause e mid (inr changed) = absurd (changed.1 (rules mid))

  -- a recovery was refused: the store serves no life, and keeps so much of the last one
  pub record Refuses (new : List (StoreLog MemDisk)) (now : StoreSlots MemDisk) : Type 0 where
    pub past_now : Past
    pub kept : MayKeep standing.settled (past_of standing.now) past_now
    pub holds : Holds accounts (Rest now) (crashed_to (Err past_now) standing) new None

  holds_so : (turn : ℕ) (w : Whole) (past_now : Past) (t : Store) (new : List (StoreLog MemDisk)) (now : StoreSlots MemDisk) → HasBase t w.starts → length new ≡ length old → IsLeftAs past_now t
      → SlotsStand t.slots now → AllDown turn w t new → Holds accounts (Rest now) (crashed_to (Err past_now) standing) new None
  holds_so turn w past_now t new now base len l stand each =
      holds_left accounts now standing past_now turn w new t base (subst (λ n. IsLeft accounts standing.settled past_now n t) (sym len) l) stand each

  -- ---- a slot was not read

  pub not_read : (fault : SlotFault) (now : StoreSlots MemDisk) → StopsReading keeps_rules mem_state failures_of fault slots now
      → IsMemoryOrDevice (refusal_for fault.cause) × Refuses old now
  not_read fault now stops = (
    told_fault fault.cause,
    record { past_now = past; kept = inl refl; holds = holds_so g h past s old now from.base refl from.left (stand_unread s.slots slots now fault from.stand stops) from.each },
  )

  -- ---- both slots were read

  module _ (read_slots : StoreSlots MemDisk) (both : Both (Option Checkpoint)) (reads : ReadsBoth keeps_rules mem_state failures_of slots read_slots both) where
    abbrev read : Slots
    read = slots_of (in_order both)

    sure : AreSure s read_slots both
    sure = slots_rest s slots read_slots both from.stand reads

    abbrev rested : Store
    rested = with_slots (map only_this read) s

    left_rested : IsLeftAs past rested
    left_rested = left_on accounts standing.settled past (length old) s rested from.left sure.leads refl refl

    left_slots : MayLeaveSlots rested.slots read
    left_slots = sure_leaves read

    stand_read : SlotsStand rested.slots read_slots
    stand_read = stand_sure both read_slots sure.keeps

    base_rested : HasBase rested h.starts
    base_rested = base_read h.starts s rested read (is_left past s from.left) sure.leads sure.left refl from.base

    -- a log was not opened
    pub not_opened : (e : LogRefusal) (new : List (StoreLog MemDisk)) → StopsOpening keeps_rules mem_state failures_of read e old new
        → IsMemoryOrDevice e.refusal × Refuses new read_slots
    not_opened e new stops =
        let l = left_rested in
        let n = opening.not_opened rested (length old) l.some l.few l.come g h base_rested old l.len from.each read left_slots l.few e new stops in (
          n.cause,
          record { past_now = past; kept = inl refl; holds = holds_so g h past rested new read_slots base_rested n.len_so l stand_read n.each_so },
        )

    -- all were
    module _ (mid : List (StoreLog MemDisk)) (chains : Chains) (opens : OpensLogs keeps_rules mem_state failures_of read old mid chains) where
      abbrev found : List Chain
      found = map contents_of chains.fronts.items

      fronts : List Contents
      fronts = opening.fronts rested (length old) left_rested.some left_rested.few left_rested.come g h base_rested old left_rested.len from.each read left_slots mid chains opens

      ends : AllZip EndsLog fronts found
      unfolding fronts
      ends = opening.chains_end rested (length old) left_rested.some left_rested.few left_rested.come g h base_rested old left_rested.len from.each read left_slots mid chains opens

      has_use : HasUse found read
      has_use = opening.chains_use rested (length old) left_rested.some left_rested.few left_rested.come g h base_rested old left_rested.len from.each read left_slots mid chains opens

      abbrev opened_store : Store
      opened_store = with_logs (map log_at_rest fronts) rested

      -- the generation of the chains stands whole from now on
      abbrev opened_whole : ℕ → Whole
      opened_whole starts = record { generation = chains.generation; starts = starts }

      each_open : (starts : ℕ) → BeginBy starts found → AllOpen g (opened_whole starts) opened_store mid
      unfolding fronts
      each_open = opening.all_open rested (length old) left_rested.some left_rested.few left_rested.come g h base_rested old left_rested.len from.each read left_slots mid chains opens

      -- they begin in the turn, and tell of which generation the last logs are
      in_turn : (chains.generation ≡ g) ⊎ (chains.generation ≡ g + 1)
      in_turn = opening.firsts rested (length old) left_rested.some left_rested.few left_rested.come g h base_rested old left_rested.len from.each read left_slots mid chains opens

      mid_theirs : NoneBegun chains.begun.items → (k : ℕ) (log : StoreLog MemDisk) → slice_get mid k ≡ Some log → log.log.generation ≡ chains.generation
      mid_theirs = opening.of_theirs rested (length old) left_rested.some left_rested.few left_rested.come g h base_rested old left_rested.len from.each read left_slots mid chains opens

      first_theirs : ¬ NoneBegun chains.begun.items → chains.generation ≡ g
      first_theirs = opening.of_first rested (length old) left_rested.some left_rested.few left_rested.come g h base_rested old left_rested.len from.each read left_slots mid chains opens

      opened_leads : LeadsTo rested opened_store
      unfolding fronts
      opened_leads = opening.rested_leads rested (length old) left_rested.some left_rested.few left_rested.come g h base_rested old left_rested.len from.each read left_slots mid chains opens

      opened_len : length opened_store.logs ≡ length rested.logs
      unfolding fronts
      opened_len = opening.rested_len rested (length old) left_rested.some left_rested.few left_rested.come g h base_rested old left_rested.len from.each read left_slots mid chains opens

      left_opened : IsLeftAs past opened_store
      left_opened = left_on accounts standing.settled past (length old) rested opened_store left_rested opened_leads opened_len refl

      -- on a base that may be used
      use_so : (starts : ℕ) × BeginBy starts found × HasBase opened_store starts
      use_so = use_covers opened_store fronts found both (is_left past opened_store left_opened) refl refl ends has_use

      -- they are refused
      pub refused_for : (e : Refusal) → IsRefusal found read (quota_in accounts) e → IsMemoryOrDevice e × Refuses mid read_slots
      refused_for e is = (
        inl (refused accounts standing.settled past (length old) opened_store fronts found read left_opened refl refl ends has_use e is),
        record { past_now = past; kept = inl refl; holds = holds_so g (opened_whole use_so.0) past opened_store mid read_slots use_so.2 opens.back.len left_opened stand_read (all_open_down g (opened_whole use_so.0) opened_store mid (each_open use_so.0 use_so.1)) },
      )

      -- their second reading stopped
      pub stopped_again : (new : List (StoreLog MemDisk)) (now : StoreSlots MemDisk) → LogsAreRead keeps_rules mem_state failures_of false mid new
          → SlotsStay keeps_rules mem_state failures_of read_slots now → Refuses new now
      stopped_again new now is_read stay = record {
        past_now = past;
        kept = inl refl;
        holds = holds_so g (opened_whole use_so.0) past opened_store new now use_so.2 (is_read.len ∙ opens.back.len) left_opened
            (record { mays = stand_read.mays; shown = stand_read.shown; keeps = stay.keeps stand_read.mays stand_read.keeps })
            (read_down g (opened_whole use_so.0) opened_store mid new is_read (all_open_down g (opened_whole use_so.0) opened_store mid (each_open use_so.0 use_so.1)));
      }

      -- they are recovered
      abbrev recovered : Store
      recovered = recovered_from fronts read opened_store

      abbrev past_kept : Past
      past_kept = kept_upto (cutoff_of fronts) past

      left_now : IsLeftAs past_kept recovered
      left_now = left_recovered accounts standing.settled past (length old) opened_store fronts found read left_opened refl refl ends

      keeps : MayKeep standing.settled past past_kept
      keeps = inr (keeps_upto accounts standing.settled past (length old) opened_store fronts found read left_opened refl refl ends)

      module _ (r : Found) (is : IsRecoveredOver found read r.cutoff r.resume r.used (pairs_of r.pairs.items)) where
        -- the checkpoint that was used is the base from now on
        used_so : (starts : ℕ) × BeginBy starts found × NewestIsBase (used_slot r.used) opened_store starts
        used_so = used_newest opened_store fronts found both (is_left past opened_store left_opened) refl refl ends r.used is.used_is

        abbrev w : Whole
        w = opened_whole used_so.0

        newest_recovered : NewestIsBase (used_slot r.used) recovered w.starts
        newest_recovered = newest_stays (used_slot r.used) w.starts opened_store recovered (is_left past opened_store left_opened)
            (recovers_to accounts standing.settled past (length old) opened_store fronts found read left_opened refl refl ends) (λ slot at. refl) used_so.2

        -- by which numbers, and with which pairs
        so : (pairs_of r.pairs.items ≡ pairs_upto r.cutoff s.history) × (r.cutoff ≡ cutoff_of fronts) × (r.resume ≡ resume_of fronts read)
        so = found_so accounts standing.settled past (length old) opened_store fronts found read left_opened refl refl ends r.cutoff r.resume r.used (pairs_of r.pairs.items) is

        fits : resume_of fronts read ≤ 2 ^ 59
        fits =
            let within = resume_within found (in_order both) r.cutoff r.resume r.used r.pairs.items (both_in_format keeps_rules mem_state failures_of slots read_slots both reads)
            (chains_in_format keeps_rules mem_state failures_of read (map files_of old) opens.files chains opens.opens) is in
            let same = so.2 in
            omega (arith, within, same)

        count_mid : length recovered.logs ≡ length mid
        count_mid = opened_len ∙ from.left.len ∙ sym opens.back.len

        pub settled_upto : standing.settled ≤ r.cutoff
        settled_upto =
            let kept_so = settled_kept accounts standing.settled past (length old) opened_store fronts found read left_opened refl refl ends in
            let same = so.1 in
            omega (arith, kept_so, same)

        pub over_cutoff : r.cutoff ≤ r.resume
        over_cutoff = cutoff_within found read r.cutoff r.resume r.used (pairs_of r.pairs.items) is

        pub left_of : AreLeftOf (quotas_of accounts) past.life (min past.kept r.cutoff) (pairs_of r.pairs.items)
        left_of = found_left accounts standing.settled past (length old) opened_store fronts found read left_opened refl refl ends r.cutoff r.resume r.used (pairs_of r.pairs.items) is

        -- a log has its resume batch not for certain
        pub not_resumed : (e : LogRefusal) (new : List (StoreLog MemDisk)) → StopsResumingAt keeps_rules mem_state failures_of r.cutoff r.resume e.log e.refusal mid new
            → IsMemoryOrDevice e.refusal × Refuses new read_slots
        not_resumed e new stops =
            let len = resuming_len r.cutoff r.resume e.log e.refusal mid new stops in
            let to = subst (λ n. StopsResumingAt keeps_rules mem_state failures_of (cutoff_of fronts) n e.log e.refusal mid new) so.2
            (subst (λ n. StopsResumingAt keeps_rules mem_state failures_of n r.resume e.log e.refusal mid new) so.1 stops) in
            let o = resumed_in_part recovered (cutoff_of fronts) rested.voids refl refl fits fronts refl g w mid new count_mid len (each_open w.starts used_so.1) e.log e.refusal to in
            let t = with_logs o.logs recovered in (
              o.cause,
              record {
                past_now = past_kept;
                kept = keeps;
                holds = holds_so g w past_kept t new read_slots
                    (base_stays w.starts recovered t (is_left past_kept recovered left_now) o.leads refl (some_base (used_slot r.used) recovered w.starts newest_recovered)) (len ∙ opens.back.len)
                    (left_on accounts standing.settled past_kept (length old) recovered t left_now o.leads o.len_so refl) stand_read o.downs;
              },
            )

        -- all have theirs
        module _ (last : List (StoreLog MemDisk)) (resumes : ResumesAll keeps_rules mem_state failures_of r.cutoff r.resume mid last) where
          to_found : ResumesAll keeps_rules mem_state failures_of (cutoff_of fronts) (resume_of fronts read) mid last
          to_found =
              subst (λ n. ResumesAll keeps_rules mem_state failures_of (cutoff_of fronts) n mid last) so.2
              (subst (λ n. ResumesAll keeps_rules mem_state failures_of n r.resume mid last) so.1 resumes)

          resumed : resuming.ResumedAll recovered (cutoff_of fronts) rested.voids refl refl fits fronts refl g w mid last count_mid resumes.len (each_open w.starts used_so.1)
          resumed = all_resumed recovered (cutoff_of fronts) rested.voids refl refl fits fronts refl g w mid last count_mid resumes.len (each_open w.starts used_so.1) to_found

          abbrev resumed_store : Store
          resumed_store = with_logs resumed.logs recovered

          left_last : IsLeftAs past_kept resumed_store
          left_last = left_on accounts standing.settled past_kept (length old) recovered resumed_store left_now resumed.leads resumed.len_so refl

          newest_resumed : NewestIsBase (used_slot r.used) resumed_store w.starts
          newest_resumed = newest_stays (used_slot r.used) w.starts recovered resumed_store (is_left past_kept recovered left_now) resumed.leads (λ slot at. refl) newest_recovered

          base_resumed : HasBase resumed_store w.starts
          base_resumed = some_base (used_slot r.used) resumed_store w.starts newest_resumed

          len_last : length last ≡ length old
          len_last = resumes.len ∙ opens.back.len

          -- a resume batch leaves a log in its generation
          last_theirs : NoneBegun chains.begun.items → (k : ℕ) (log : StoreLog MemDisk) → slice_get last k ≡ Some log → log.log.generation ≡ chains.generation
          last_theirs none k log at =
              let was = within_place mid k (subst (λ n. k < n) resumes.len (within last k log at)) in
              ap (λ (l : WorkerLog MemDisk). l.generation) (resumes.each k was.0 log (within mid k was.0 was.1) was.1 at).rest ∙ mid_theirs none k was.0 was.1

          -- an older log was given up not for certain
          pub not_left : NoneBegun chains.begun.items → (e : LogRefusal) (new : List (StoreLog MemDisk)) → StopsGivingUpAt keeps_rules mem_state failures_of e.log e.refusal last new
              → IsMemoryOrDevice e.refusal × Refuses new read_slots
          not_left none e new stops =
              let p = left_in_part g chains.generation w refl resumed_store last new in_turn resumed.opens (last_theirs none) e.log e.refusal stops in (
                p.cause,
                record {
                  past_now = past_kept;
                  kept = keeps;
                  holds = holds_so p.turn w past_kept resumed_store new read_slots base_resumed (p.len ∙ len_last) left_last stand_read (all_open_down p.turn w resumed_store new p.opens);
                },
              )

          -- one generation is left, or some log is of the next one
          module _ (new : List (StoreLog MemDisk)) (leaves_one : LeavesOne keeps_rules mem_state failures_of chains.begun.items last new) where
            all_left : AllOpen chains.generation w resumed_store new
            all_left = left_open g chains.generation w refl resumed_store last new in_turn resumed.opens chains.begun.items last_theirs first_theirs leaves_one

            len_new : length new ≡ length old
            len_new = left_len chains.begun.items last new leaves_one ∙ len_last

            -- the slots, with the newest one
            abbrev kept_slots : StoreSlots MemDisk
            kept_slots = with_newest (used_slot r.used) read_slots

            stand_now : SlotsStand (map only_this read) kept_slots
            stand_now = stand_used found both r.used read_slots is.used_is sure.keeps

            -- but there is no state
            pub without_state : Refuses new kept_slots
            without_state = record {
              past_now = past_kept;
              kept = keeps;
              holds =
                  holds_so chains.generation w past_kept resumed_store new kept_slots base_resumed len_new left_last stand_now
                  (all_open_down chains.generation w resumed_store new all_left);
            }

            -- the state serves
            module _ (v : StateView) (logs : ℕ) (restored : IsRestored r.resume logs accounts r.pairs.items v) (right : IsRightState v) (count : length new ≡ logs)
                (serving : Serving) (state : serving.state ≡ v) (fresh : IsFresh serving) (turns_to : serving.generation ≡ chains.generation + 1) where
              abbrev next : Life
              next = life_from (pairs_of r.pairs.items) r.resume

              rest_at : RestAt (resume_of fronts read) resumed.logs
              rest_at = record { rest = resumed.rest_so; marks = resumed.marks }

              cutoff_upto : cutoff_of fronts ≤ r.resume
              cutoff_upto =
                  let upto = over_cutoff in
                  let same = so.1 in
                  omega (arith, upto, same)

              ended : All (λ p. p.change.stamp ≤ r.resume) resumed_store.history
              ended = All-weaker (λ (p : Placed). p.change.stamp ≤ cutoff_of fronts) (λ p. p.change.stamp ≤ r.resume) (λ p le. omega (arith, le, cutoff_upto)) resumed_store.history
                  (made_upto (cutoff_of fronts) s.history)

              found_now : pairs_of r.pairs.items ≡ pairs_upto (cutoff_of fronts) s.history
              found_now = so.0 ∙ ap (λ n. pairs_upto n s.history) so.1

              count_logs : length resumed_store.logs ≡ logs
              count_logs = left_last.len ∙ sym len_new ∙ count

              serving_now : HoldsServing chains.generation (only_whole w) accounts (λ id. None) next (served resumed_store) new serving
              serving_now =
                  begins_serving accounts (pairs_of r.pairs.items) r.resume logs v (begins_restored accounts r.resume logs r.pairs.items v restored) right (served resumed_store) refl (sym so.2) count_logs
                  (subst (λ n. RestAt n resumed.logs) (sym so.2) rest_at) ended found_now serving state chains.generation w new fresh turns_to all_left

              -- the next life
              pub with_state : Holds accounts (Rest kept_slots) (crashed_to (Ok next) standing) new (Some serving)
              with_state =
                  let goes = serves_now resumed_store refl rest_at resumed.held in
                  let len = len_new in
                  record {
                    s = served resumed_store;
                    from = chains.generation;
                    turning = only_whole w;
                    some = subst (λ n. 0 < n) (sym len) left_last.some;
                    few = subst (λ n. n ≤ 64) (sym len) left_last.few;
                    come = subst (λ n. HasCome n (served resumed_store)) (sym len) (comes_on (length old) resumed_store (served resumed_store) left_last.come goes);
                    count = left_last.len ∙ sym len;
                    stand = (refl, stand_now);
                    base = (
                      omega arith,
                      inl (newest_stays (used_slot r.used) w.starts resumed_store (served resumed_store) (is_left past_kept resumed_store left_last) goes (λ slot at. refl) newest_resumed),
                    );
                    settled = all_on (length old) standing.settled resumed_store (served resumed_store) left_last.some left_last.few left_last.come goes left_last.settled_so;
                    keeps = left_last.keeps;
                    now = serving_now;
                  }

  -- ---- each outcome

  after_slots : (e : LogRefusal) (new : List (StoreLog MemDisk)) (now : StoreSlots MemDisk) (a : StopsAfterSlots keeps_rules mem_state failures_of accounts e old slots new now)
      → StopsOpening keeps_rules mem_state failures_of (slots_of (in_order a.found)) e old new
      ⊎ (IsRefusedOf keeps_rules mem_state failures_of accounts e slots (slots_of (in_order a.found)) old new
      ⊎ (ResumesInPart keeps_rules mem_state failures_of accounts e slots (slots_of (in_order a.found)) old new
      ⊎ GivesUpInPart keeps_rules mem_state failures_of accounts e slots (slots_of (in_order a.found)) old new))
      → IsMemoryOrDevice e.refusal × Refuses new now
  after_slots e new now a (inl stops) = not_opened now a.found a.reads e new stops
  after_slots e new now a (inr (inl r)) = refused_for now a.found a.reads new r.chains r.opens e.refusal (refused_seen e (slots_of (in_order a.found)) new r)
  after_slots e new now a (inr (inr (inl p))) = not_resumed now a.found a.reads p.mid p.chains p.opens p.r (over_seen p.mid (slots_of (in_order a.found)) p.chains.fronts.items p.r p.recovers) e new p.stops
  after_slots e new now a (inr (inr (inr p))) = not_left now a.found a.reads p.mid p.chains p.opens p.r (over_seen p.mid (slots_of (in_order a.found)) p.chains.fronts.items p.r p.recovers) p.resumed p.resumes p.none e new p.stops

  pub not_recovered : (e : StoreRefusal) (new : List (StoreLog MemDisk)) (now : StoreSlots MemDisk) → IsNotRecovered keeps_rules mem_state failures_of accounts e old slots new now
      → IsMemoryOrDevice (refusal_in e) × Refuses new now
  not_recovered e new now (inl first) = in_first e first
    where
      in_first : (e : StoreRefusal) → StopsInFirst keeps_rules mem_state failures_of accounts e old slots new now → IsMemoryOrDevice (refusal_in e) × Refuses new now
      in_first (OfLogs e) a = after_slots e new now a a.why
      in_first (OfSlot fault) r = let d = not_read fault now r.0 in (d.0, subst (λ ls. Refuses ls now) (sym r.1) d.1)
  not_recovered e new now (inr again) = (stopped_cause e again.mid again.why, stopped_again again.rested again.found again.reads again.mid again.chains again.opens new now again.read again.stay)

  pub recovered_down : (r : Found) (generation : ℕ) (new : List (StoreLog MemDisk)) (now : StoreSlots MemDisk)
      → ServesAgain keeps_rules mem_state failures_of accounts r generation old slots new now → Refuses new now
  recovered_down r generation new now a =
      subst (λ ss. Refuses new ss) (sym a.keeps) (without_state a.rested a.found a.reads a.mid a.chains a.opens r (over_seen a.mid (slots_of (in_order a.found)) a.chains.fronts.items r a.recovers) a.resumed a.resumes new a.leaves)

  pub recovered_up : (r : Found) (generation : ℕ) (new : List (StoreLog MemDisk)) (now : StoreSlots MemDisk)
      → ServesAgain keeps_rules mem_state failures_of accounts r generation old slots new now → (v : StateView) → IsRestored r.resume (length new) accounts r.pairs.items v → IsRightState v
      → (serving : Serving) → serving.state ≡ v → IsFresh serving → serving.generation ≡ generation + 1
      → (next : Standing) × (standing.settled ≤ r.cutoff) × (r.cutoff ≤ r.resume) × AreLeftOf (quotas_of accounts) (past_of standing.now).life (min (past_of standing.now).kept r.cutoff) (pairs_of r.pairs.items)
      × (next ≡ crashed_to (Ok (life_from (pairs_of r.pairs.items) r.resume)) standing) × Holds accounts (Rest now) next new (Some serving)
  recovered_up r generation new now a v restored right serving state fresh turns_to = (
    crashed_to (Ok (life_from (pairs_of r.pairs.items) r.resume)) standing,
    settled_upto a.rested a.found a.reads a.mid a.chains a.opens r (over_seen a.mid (slots_of (in_order a.found)) a.chains.fronts.items r a.recovers),
    over_cutoff a.rested a.found a.reads a.mid a.chains a.opens r (over_seen a.mid (slots_of (in_order a.found)) a.chains.fronts.items r a.recovers),
    left_of a.rested a.found a.reads a.mid a.chains a.opens r (over_seen a.mid (slots_of (in_order a.found)) a.chains.fronts.items r a.recovers),
    refl,
    subst (λ (ss : StoreSlots MemDisk). Holds accounts (Rest ss) (crashed_to (Ok (life_from (pairs_of r.pairs.items) r.resume)) standing) new (Some serving)) (sym a.keeps)
        (with_state a.rested a.found a.reads a.mid a.chains a.opens r (over_seen a.mid (slots_of (in_order a.found)) a.chains.fronts.items r a.recovers) a.resumed a.resumes new a.leaves v (length new) restored right refl serving state fresh
        (turns_to ∙ ap (λ n. n + 1) a.from)),
  )

-- ---- what is noted of a crash

module _ (accounts : Accounts) (slots between now : StoreSlots MemDisk) (old mid new : List (StoreLog MemDisk)) (was : Option Serving) (images : CrashImages)
    (crash : AllCrash images old slots mid between) where
  pub left_by : (standing : Standing) → Holds accounts (Rest slots) standing old was → Leaves accounts between standing mid
  left_by standing h = leaves accounts slots between standing old mid was images.logs.items images.first.items images.second.items h crash.logs_crash crash.slots_crash

  -- the store is recovered
  pub crashes_recovered : (r : Found) (serving : Serving) → AreRecovered accounts between now r serving.generation mid new → Begins accounts r new serving
      → CrashesTo accounts (Rest slots) (Rest now) (Recovered r) old was new (Some serving)
  crashes_recovered r serving again begins = λ named standing h.
      let up = recovered_up accounts between standing mid (left_by standing h) r again.0 new now again.2 serving.state begins.state begins.right serving refl begins.fresh again.1 in
      (up.0, (up.1, up.2, up.3, up.4), up.5)

  -- or not
  pub crashes_refused : (e : Refusal) → AreNotRecovered accounts between now e mid new → CrashesTo accounts (Rest slots) (Rest now) (Refused e) old was new None
  crashes_refused e not = λ named standing h.
      ⊎_elim
      (λ refused.
      let down = not_recovered accounts between standing mid (left_by standing h) refused.0 new now refused.2 in (
        crashed_to (Err down.1.past_now) standing,
        (subst IsMemoryOrDevice refused.1 down.0, (down.1.past_now, down.1.kept, refl)),
        down.1.holds,
      ))
      (λ memory.
      let down = recovered_down accounts between standing mid (left_by standing h) memory.1.0 memory.1.2.0 new now memory.1.2.2 in (
        crashed_to (Err down.past_now) standing,
        (inl memory.0, (down.past_now, down.kept, refl)),
        down.holds,
      ))
      not.cause

-- it did not crash
pub crashes_not : (accounts : Accounts) (slots now_slots : StoreSlots MemDisk) (old new : List (StoreLog MemDisk)) (was now : Option Serving) → now_slots ≡ slots → new ≡ old → now ≡ was
    → CrashesTo accounts (Rest slots) (Rest now_slots) NoSuch old was new now
crashes_not accounts slots now_slots old new was now same_slots same same_serving = λ named standing h. (
  standing,
  ap (λ check. checking check standing) h.stand.0,
  subst (λ (ss : StoreSlots MemDisk). Holds accounts (Rest ss) standing new now) (sym same_slots)
      (subst (λ logs. Holds accounts (Rest slots) standing logs now) (sym same) (subst (Holds accounts (Rest slots) standing old) (sym same_serving) h)),
)

-- ---- a turn that is made is given up

resting_of : StoreSlots MemDisk → LiveSlots → StoreSlots MemDisk
resting_of other (Rest slots) = slots
resting_of other slots = other

same_rest : (a b : StoreSlots MemDisk) → Rest a ≡ Rest b → a ≡ b
unfolding resting_of
same_rest a b e = ap (resting_of a) e

pub gave_up : (accounts : Accounts) (slots : LiveSlots) (was : StoreSlots MemDisk) (standing : Standing) (logs : List (StoreLog MemDisk)) (serving : Option Serving)
    → at_rest slots ≡ Rest was → Holds accounts slots standing logs serving → Holds accounts (Rest was) (checking None standing) logs serving
gave_up accounts slots was standing logs serving rests h = record {
  s = h.s;
  from = h.from;
  turning = h.turning;
  some = h.some;
  few = h.few;
  come = h.come;
  count = h.count;
  stand = (refl, by slots rests h.stand);
  base = base_rests standing.now h.from h.turning slots was h.s rests h.base;
  settled = h.settled;
  keeps = h.keeps;
  now = h.now;
}
  where
    by : (ss : LiveSlots) → at_rest ss ≡ Rest was → Rattle.mt_lives.specs.Checks.LiveSlotsStand accounts standing.check standing.now h.s.slots h.s.history h.s.steps ss
        → SlotsStand h.s.slots was
    by (Rest ss) e stand = subst (SlotsStand h.s.slots) (same_rest ss was e) stand.1
    by (Turns turn) e stand = subst (SlotsStand h.s.slots) (same_rest turn.slots was e) stand.2
    by (Writes c) e stand =
        subst (SlotsStand h.s.slots) (same_rest _ was e) (record { mays = stand.1.mays; shown = stand.1.shown_so; keeps = stand.1.keeps.slots })
    by Away e stand = absurd stand

noted_at_rest : (accounts : Accounts) (standing after : Standing) (images : CrashImages) (note : StoreNote)
    → IsNoted (quotas_of accounts) (checking None standing) (Crash images) note after → IsNoted (quotas_of accounts) standing (Crash images) note after
noted_at_rest accounts standing after images (Recovered r) n = n
noted_at_rest accounts standing after images (Refused e) n = n
noted_at_rest accounts standing after images NoSuch n = n
noted_at_rest accounts standing after images note n = absurd n

-- so a crash of slots at rest is one of the slots as they were
pub crashes_live : {E : Type 0} (accounts : Accounts) (slots now : LiveSlots) (was : StoreSlots MemDisk) (old new : List (StoreLog MemDisk)) (before after : Option Serving) (result : Result StoreNote E)
    → at_rest slots ≡ Rest was → IfOk result (λ note. CrashesTo accounts (Rest was) now note old before new after) → IfOk result (λ note. CrashesTo accounts slots now note old before new after)
crashes_live accounts slots now was old new before after (Ok note) rests goes = λ images standing h.
    let r = goes images (checking None standing) (gave_up accounts slots was standing old before rests h) in
    (r.0, noted_at_rest accounts standing r.0 images note r.1, r.2)
crashes_live accounts slots now was old new before after (Err e) rests goes = tt

pub crashed_at_rest : {E : Type 0} (accounts : Accounts) (images : CrashImages) (slots : LiveSlots) (was is : StoreSlots MemDisk) (old new : List (StoreLog MemDisk)) (result : Result StoreNote E)
    → at_rest slots ≡ Rest was → IfOk result (λ note. IsCrashForced accounts images note was is old new)
    → IfOk result (λ note. (first last : StoreSlots MemDisk) × (at_rest slots ≡ Rest first) × (Rest is ≡ Rest last) × IsCrashForced accounts images note first last old new)
crashed_at_rest accounts images slots was is old new (Ok note) rests forced = (was, is, rests, refl, forced)
crashed_at_rest accounts images slots was is old new (Err e) rests forced = tt

pub not_away : (accounts : Accounts) (slots : LiveSlots) (standing : Standing) (logs : List (StoreLog MemDisk)) (serving : Option Serving) → Holds accounts slots standing logs serving → slots ≢ Away
not_away accounts slots standing logs serving h e =
    subst (Rattle.mt_lives.specs.Checks.LiveSlotsStand accounts standing.check standing.now h.s.slots h.s.history h.s.steps) e h.stand

-- an event that is a crash, whatever its call answers
pub crashed_goes : {E : Type 0} (accounts : Accounts) (slots now_slots : LiveSlots) (images : CrashImages) (event : StoreEvent)
    (first old new last : List (StoreLog MemDisk)) (was serving : Option Serving)
    (result : Result StoreNote E) → event ≡ Crash images → first ≡ old → new ≡ last → IfOk result (λ note. CrashesTo accounts slots now_slots note first was new serving)
    → IfOk result (λ note. GoesOn accounts slots now_slots event note old was last serving)
crashed_goes accounts slots now_slots images event first old new last was serving (Ok note) is same_old same_new crashes =
    subst (λ e. GoesOn accounts slots now_slots e note old was last serving) (sym is)
    (subst (λ logs. GoesOn accounts slots now_slots (Crash images) note logs was last serving) same_old
    (subst (λ logs. GoesOn accounts slots now_slots (Crash images) note first was logs serving) same_new (crashes images)))
crashed_goes accounts slots now_slots images event first old new last was serving (Err e) is same_old same_new crashes = tt
