-- A turn of a store that is owned alone is a list of events.
use Rattle.std.proofs.Common.{◌≡◌, ◌≢◌, ℕ, zero, suc, true, List, [], ◌∷◌, ◌++◌, map, length, Option, Some, None, Result, Ok, Err, refl, sym, ap, subst, ◌∙◌, inl, inr, arith}
use Rattle.std.proofs.{lemmas.List.map-append, lemmas.Option.same_Some}
use Rattle.std.specs.Prelude.{slice_get, slice_set}
use Rattle.mt_rows.specs.{Accounts.Accounts, declared.record.Batch.Batch, declared.refusal.Refusal.Refusal}
use Rattle.mt_disk.specs.{declared.mem.MemDisk.MemDisk, Mem.mem_state}
use Rattle.mt_runs.specs.Placings.{Quotas}
use Rattle.mt_recover.specs.{declared.resuming.LogSlot.LogSlot, declared.resuming.LogSlot.TheVariants.{Open, Failed, Closed, Away}}
use Rattle.mt_crashes.proofs.Members.{no_some}
use Rattle.mt_log_files.specs.{declared.worker.WorkerFiles.WorkerFiles, Slots.with_file}
use Rattle.mt_turns.specs.declared.worker_log.WorkerLog.{WorkerLog}
use Rattle.mt_turns.proofs.Places.{file_again}
use Rattle.mt_store_logs.specs.{declared.last_log.LastLog.LastLog, declared.store_log.StoreLog.StoreLog, Places.{slot_of, last_log_of, mark_in, OnLast}}
use Rattle.mt_store_logs.specs.Waits.{TakesIn, AppendsKept, FailsToAppend, ReopensAt, Reopens, FailsToReopenAt, FailsToReopen}
use Rattle.mt_store_logs.specs.Turns.{LooksForNext, ReopensLog, FailsToReopenLog}
use Rattle.mt_settle.specs.Turns.{BroughtUp}
use Rattle.mt_stored.specs.declared.source.OwnState.{OwnState}
use Rattle.mt_lives.specs.{declared.events.StoreEvent.StoreEvent, declared.events.StoreEvent.TheVariants.{Flush, Reopen}, declared.events.StoreNote.StoreNote}
use Rattle.mt_lives.specs.{declared.events.StoreNote.TheVariants.{Flushed, Reopened, Refused}, declared.serving.Serving.Serving, Serving.DrainsServing}
use Rattle.mt_lives.specs.{Lives.{Standing, IsNoted, Notes, NotesLead}, Holds.{quotas_of, Holds}, Owned.{with_state, opening, flush_note, turn_notes, IsTurn}}
use Rattle.mt_lives.proofs.{Comes.{set_there, set_same, set_twice}, Flushing.{keeps_rules, failures_of, within}, Lists.leads_more}
use Rattle.mt_lives.proofs.{Noting.{found, at}, Noted.none_waits, Flushing.stands_at, TurnLogs.shut_in_doubt, LogDrains.file_same}
use Rattle.mt_lives.proofs.LogDrains.{DrainsLog, DrainsLogShort, HasDrainedLog, FailsInLogDrains, Drains, FailsToDrainUpto, TurnsLog, FailsToTurn}
use Rattle.mt_lives.proofs.Goes.{reopen_goes, reopen_stops, flush_goes, flush_stops}
use Rattle.mt_lives.proofs.Owning.{DoesInMemory, Keeps, turns_up, fails_to_turn, keeps_at_first}
use Rattle.mt_lives.specs.{declared.live_slots.LiveSlots.LiveSlots, Turning.part_of}
use Rattle.mt_rows.specs.declared.refusal.Refusal.TheVariants as refusals

-- ---- notes one after the other

leads_then : (quotas : Quotas) (old mid new : Standing) (notes more : Notes) → NotesLead quotas old notes mid → NotesLead quotas mid more new → NotesLead quotas old (notes ++ more) new
leads_then quotas old mid new [] more a b = subst (λ (s : Standing). NotesLead quotas s more new) a b
leads_then quotas old mid new (x ∷ notes) more a b = (a.0, a.1, leads_then quotas a.0 mid new notes more a.2 b)

-- ---- a log that is open, and for which no batch waits

-- a log that took in what waited is open
open_after : (kept : Option Batch) (old new : LogSlot MemDisk) → TakesIn keeps_rules mem_state failures_of kept old new → mark_in new ≢ None
open_after None old new t = λ shut. t.0 (ap mark_in (sym t.1) ∙ shut)
open_after (Some b) old new (inl there) = λ shut. no_some b.to (sym shut ∙ ap mark_in there.1 ∙ there.0)
open_after (Some b) (Open old) (Open new) (inr h) = λ shut. no_some new.mark (sym shut)
open_after (Some b) old new (inr h) = absurd h

-- a log that was opened is open
open_again : (slot : LogSlot MemDisk) (old new : LastLog MemDisk) → ReopensAt keeps_rules mem_state failures_of slot old new → mark_in new.slot ≢ None
open_again (Open log) old new r = open_after old.kept old.slot new.slot r.takes
open_again (Failed log) old new r = open_after old.kept (Open r.log) new.slot r.appends.takes
open_again (Closed disk) old new r = open_after old.kept (Open r.log) new.slot r.appends.takes
open_again Away old new r = open_after old.kept old.slot new.slot r.takes

-- nothing is left to be appended
none_fails : (e : Refusal) (log new : LastLog MemDisk) → mark_in log.slot ≢ None → log.kept ≡ None → FailsToAppend keeps_rules mem_state failures_of e log new → ⊥
none_fails refusals.Device log new is_open none (inl shut) = is_open shut.0
none_fails refusals.Device log new is_open none (inr closes) = no_some closes.batch (sym none ∙ closes.waited)
none_fails refusals.Memory log new is_open none s = no_some s.batch (sym none ∙ s.waits)
none_fails (refusals.WrongTurn mark) log new is_open none s = no_some s.batch (sym none ∙ s.waits)
none_fails e log new is_open none f = absurd f

-- it stays as it is
takes_nothing : (log : StoreLog MemDisk) → mark_in (slot_of log) ≢ None → log.kept ≡ None → OnLast (AppendsKept keeps_rules mem_state failures_of) log log
takes_nothing log is_open none = record {
  does = record {
    takes = subst (λ kept. TakesIn keeps_rules mem_state failures_of kept (slot_of log) (slot_of log)) (sym none) (is_open, refl);
    none = none;
  };
  rest = ap (λ (fs : WorkerFiles MemDisk). record log.log { generation = log.log.generation; files = fs }) (sym (file_same log.log.generation log.log.files));
  doubts = refl;
  oldest = refl;
}

-- who took in what waited, and then nothing, took that in
takes_both : (log mid new : StoreLog MemDisk) → OnLast (AppendsKept keeps_rules mem_state failures_of) log mid
    → OnLast (AppendsKept keeps_rules mem_state failures_of) mid new → OnLast (AppendsKept keeps_rules mem_state failures_of) log new
takes_both log mid new a b =
    let t = subst (λ kept. TakesIn keeps_rules mem_state failures_of kept (slot_of mid) (slot_of new)) a.does.none b.does.takes in
    record {
      does = record {
        takes = subst (λ slot. TakesIn keeps_rules mem_state failures_of log.kept (slot_of log) slot) (sym t.1) a.does.takes;
        none = b.does.none;
      };
      rest =
          b.rest
          ∙ ap (λ (l : WorkerLog MemDisk). record l { generation = l.generation; files = with_file l.generation (slot_of new) l.files }) a.rest
          ∙ ap (λ (fs : WorkerFiles MemDisk). record log.log { generation = log.log.generation; files = fs }) (file_again log.log.generation (slot_of new) (slot_of mid) log.log.files);
      doubts = b.doubts ∙ a.doubts;
      oldest = b.oldest ∙ a.oldest;
    }

module _ (accounts : Accounts) (slots : LiveSlots) (standing : Standing) (logs : List (StoreLog MemDisk)) (worker : ℕ) where
  -- all holds of the store with this log in its place
  record Stood (log : StoreLog MemDisk) (serving : Serving) : Type 0 where
    now : List (StoreLog MemDisk)
    there : slice_get now worker ≡ Some log
    others : (x : StoreLog MemDisk) → slice_set now worker x ≡ slice_set logs worker x
    holds : Holds accounts slots standing now (Some serving)

  in_place : (log : StoreLog MemDisk) (serving : Serving) → Stood log serving → Holds accounts slots standing (slice_set logs worker log) (Some serving)
  in_place log serving s = subst (λ ls. Holds accounts slots standing ls (Some serving)) (sym (set_same s.now worker log s.there) ∙ s.others log) s.holds

  set_to : (log new : StoreLog MemDisk) (was serving : Serving) (s : Stood log was) → Holds accounts slots standing (slice_set s.now worker new) (Some serving) → Stood new serving
  set_to log new was serving s h = record {
    now = slice_set s.now worker new;
    there = set_there s.now worker log new s.there;
    others = λ x. set_twice s.now worker new x ∙ s.others x;
    holds = h;
  }

  abbrev Noted : StoreEvent → StoreNote → Type 0
  Noted event note = IsNoted (quotas_of accounts) standing event note standing

  abbrev flushed : ℕ → StoreEvent × StoreNote
  flushed step = (Flush worker, Flushed step)

  -- a drain of a turn is a flush
  one_flush : (upto mark : ℕ) (log mid new : StoreLog MemDisk) (was is : Serving) → Stood log was → OnLast (AppendsKept keeps_rules mem_state failures_of) log mid
      → DrainsLog keeps_rules mem_state failures_of DrainsServing worker upto mark mid new was is
      → Noted (Flush worker) (Flushed mark) × Stood new is × OnLast (AppendsKept keeps_rules mem_state failures_of) new new
  one_flush upto mark log mid new was is s kept d =
      let f : Drains keeps_rules mem_state failures_of DrainsServing worker 0 mark log new was is = record {
        first = mid;
        kept = kept;
        drains = record {
          times = 0;
          mid = mid;
          between = was;
          short = (refl, refl);
          last = record { batch = d.batch; given = d.given; bounded = d.bounded; brings = inl (omega arith); appended = d.appended; told = d.told };
        };
        reaches = omega arith;
      } in
      let g = flush_goes accounts slots standing s.now was s.holds worker log new s.there is mark f in
      let same = g.1.4 in (
        subst (λ next. IsNoted (quotas_of accounts) standing (Flush worker) (Flushed mark) next) same g.1,
        set_to log new was is s (subst (λ next. Holds accounts slots next (slice_set s.now worker new) (Some is)) same g.2),
        takes_nothing new (λ shut. no_some d.batch.to (sym shut ∙ d.appended.does.mark)) d.appended.does.appends.none,
      )

  -- some flushes, before the one that ends the turn
  record Short (new : StoreLog MemDisk) (is : Serving) : Type 0 where
    steps : List ℕ
    last : StoreLog MemDisk
    stood : Stood last is
    kept : OnLast (AppendsKept keeps_rules mem_state failures_of) last new
    lead : NotesLead (quotas_of accounts) standing (map flushed steps) standing

  short : (n upto : ℕ) (log first new : StoreLog MemDisk) (was is : Serving) → Stood log was → OnLast (AppendsKept keeps_rules mem_state failures_of) log first
      → DrainsLogShort keeps_rules mem_state failures_of DrainsServing worker n upto first new was is → Short new is
  short zero upto log first new was is s kept d = record {
    steps = [];
    last = log;
    stood = subst (Stood log) (sym d.1) s;
    kept = subst (λ (l : StoreLog MemDisk). OnLast (AppendsKept keeps_rules mem_state failures_of) log l) (sym d.0) kept;
    lead = refl;
  }
  short (suc n) upto log first new was is s kept (mark, mid, between, rest, d, less) =
      let r = short n upto log first mid was between s kept rest in
      let f = one_flush upto mark r.last mid new between is r.stood r.kept d in
      record {
        steps = r.steps ++ mark ∷ [];
        last = new;
        stood = f.1;
        kept = f.2;
        lead = subst (λ notes. NotesLead (quotas_of accounts) standing notes standing) (sym (map-append flushed r.steps (mark ∷ [])))
            (leads_more (quotas_of accounts) standing standing standing (map flushed r.steps) (Flush worker) (Flushed mark) r.lead f.0);
      }

  -- and that one
  record Ended (told : Result ℕ Refusal) (new : StoreLog MemDisk) (is : Serving) : Type 0 where
    steps : List ℕ
    lead : NotesLead (quotas_of accounts) standing (map flushed steps ++ (Flush worker, flush_note told) ∷ []) standing
    holds : Holds accounts slots standing (slice_set logs worker new) (Some is)

  goes_up : (upto mark : ℕ) (log first new : StoreLog MemDisk) (was is : Serving) → Stood log was → OnLast (AppendsKept keeps_rules mem_state failures_of) log first
      → HasDrainedLog keeps_rules mem_state failures_of DrainsServing worker upto mark first new was is → Ended (Ok mark) new is
  goes_up upto mark log first new was is s kept h =
      let r = short h.times upto log first h.mid was h.between s kept h.short in
      let f = one_flush upto mark r.last h.mid new h.between is r.stood r.kept h.last in
      record {
        steps = r.steps;
        lead = leads_more (quotas_of accounts) standing standing standing (map flushed r.steps) (Flush worker) (Flushed mark) r.lead f.0;
        holds = in_place new is f.1;
      }

  -- a flush that failed
  one_stops : (e : Refusal) (log new : StoreLog MemDisk) (was is : Serving) → Stood log was → FailsToDrainUpto keeps_rules mem_state failures_of DrainsServing worker 0 e log new was is
      → Noted (Flush worker) (Refused e) × Stood new is
  one_stops e log new was is s f =
      let g = flush_stops accounts slots standing s.now was s.holds worker log new s.there is e f in
      let same = g.1.2 in (
        subst (λ next. IsNoted (quotas_of accounts) standing (Flush worker) (Refused e) next) same g.1,
        set_to log new was is s (subst (λ next. Holds accounts slots next (slice_set s.now worker new) (Some is)) same g.2),
      )

  stops : (upto : ℕ) (e : Refusal) (log first new : StoreLog MemDisk) (was is : Serving) → Stood log was → OnLast (AppendsKept keeps_rules mem_state failures_of) log first
      → FailsInLogDrains keeps_rules mem_state failures_of DrainsServing worker upto e first new was is → Ended (Err e) new is
  stops upto e log first new was is s kept f =
      let r = short f.times upto log first f.mid was f.between s kept f.short in
      let g = one_stops e r.last new f.between is r.stood (inr (record {
        first = f.mid;
        kept = r.kept;
        fails = record { times = 0; mid = f.mid; between = f.between; short = (refl, refl); fails = f.fails };
      })) in
      record {
        steps = r.steps;
        lead = leads_more (quotas_of accounts) standing standing standing (map flushed r.steps) (Flush worker) (Refused e) r.lead g.0;
        holds = in_place new is g.1;
      }

  -- ---- the log is opened

  -- It is open, and no batch waits for it; a log that was open has its batch by the first flush.
  record Entered (mark : Option ℕ) (mid : StoreLog MemDisk) (was : Serving) : Type 0 where
    log : StoreLog MemDisk
    stood : Stood log was
    kept : (first : StoreLog MemDisk) → OnLast (AppendsKept keeps_rules mem_state failures_of) mid first → OnLast (AppendsKept keeps_rules mem_state failures_of) log first
    is_open : mark_in (slot_of mid) ≢ None
    none : mid.kept ≡ None
    lead : NotesLead (quotas_of accounts) standing (opening worker mark) standing

  -- as long as the next log may be there, the last one is not open
  shut : (log : StoreLog MemDisk) (was : Serving) → Stood log was → log.next_in_doubt ≡ true → mark_in (slot_of log) ≡ None
  shut log was s =
      let h = s.holds in
      let now = (found accounts slots standing s.now was h worker log log s.there).0 in
      shut_in_doubt h.from (part_of h.turning worker) now log (stands_at h.from (part_of h.turning worker) h.s was.state.logs worker now log (at accounts slots standing s.now was h worker log log s.there))

  enters : (log mid : StoreLog MemDisk) (was : Serving) → Stood log was → ReopensLog keeps_rules mem_state failures_of log mid → Entered (mark_in (slot_of log)) mid was
  enters log mid was s r = by r.looks
    where
      is_open : mark_in (slot_of mid) ≢ None
      is_open = open_again (slot_of r.mid) (last_log_of r.mid) (last_log_of mid) r.reopens.does

      again : Entered None mid was
      again =
          let g = reopen_goes accounts slots standing s.now was s.holds worker log mid s.there r in
          let same = g.1.1 in
          record {
            log = mid;
            stood = set_to log mid was was s (subst (λ next. Holds accounts slots next (slice_set s.now worker mid) (Some was)) same g.2);
            kept = λ first a. a;
            is_open = is_open;
            none = none_waits log mid r;
            lead = (standing, subst (λ next. IsNoted (quotas_of accounts) standing (Reopen worker) Reopened next) same g.1, refl);
          }

      at_slot : (slot : LogSlot MemDisk) → OnLast (Reopens keeps_rules mem_state failures_of) log mid → ReopensAt keeps_rules mem_state failures_of slot (last_log_of log) (last_log_of mid)
          → Entered (mark_in slot) mid was
      at_slot (Open l) on a = record {
        log = log;
        stood = s;
        kept = λ first b. takes_both log mid first (record { does = a; rest = on.rest; doubts = on.doubts; oldest = on.oldest }) b;
        is_open = is_open;
        none = none_waits log mid r;
        lead = refl;
      }
      at_slot (Failed l) on a = again
      at_slot (Closed disk) on a = again
      at_slot Away on a = again

      by : LooksForNext keeps_rules mem_state failures_of log r.mid → Entered (mark_in (slot_of log)) mid was
      by (inl sure) =
          let on = subst (λ (l : StoreLog MemDisk). OnLast (Reopens keeps_rules mem_state failures_of) l mid) sure.1 r.reopens in
          at_slot (slot_of log) on on.does
      by (inr looked) = subst (λ (mark : Option ℕ). Entered mark mid was) (sym (shut log was s looked.0)) again

  -- ---- the turn

  ends : (mark : Option ℕ) (told : Result ℕ Refusal) (mid new : StoreLog MemDisk) (was is : Serving) → Entered mark mid was → Ended told new is
      → IsTurn accounts slots standing worker mark told (slice_set logs worker new) is
  ends mark told mid new was is a b = record {
    notes = turn_notes worker mark b.steps told;
    are = inl (b.steps, refl);
    lead = leads_then (quotas_of accounts) standing standing standing (opening worker mark) (map flushed b.steps ++ (Flush worker, flush_note told) ∷ []) a.lead b.lead;
    holds = b.holds;
  }

  turn_ok : (upto mark : ℕ) (log new : StoreLog MemDisk) (was is : Serving) → Stood log was → TurnsLog keeps_rules mem_state failures_of DrainsServing worker upto mark log new was is
      → IsTurn accounts slots standing worker (mark_in (slot_of log)) (Ok mark) (slice_set logs worker new) is
  turn_ok upto mark log new was is s b =
      let a = enters log b.mid was s b.opens in
      let f = b.flushes in
      ends (mark_in (slot_of log)) (Ok mark) b.mid new was is a (goes_up upto mark a.log f.first new was is a.stood (a.kept f.first f.kept) f.drains)

  -- a log that was not opened
  stays_shut : (e : Refusal) (log new : StoreLog MemDisk) (was : Serving) → Stood log was → FailsToReopenLog keeps_rules mem_state failures_of e log new
      → IsTurn accounts slots standing worker (mark_in (slot_of log)) (Err e) (slice_set logs worker new) was
  stays_shut e log new was s f = by f
    where
      not_opened : IsTurn accounts slots standing worker None (Err e) (slice_set logs worker new) was
      not_opened =
          let g = reopen_stops accounts slots standing s.now was s.holds worker log new s.there e f in
          let same = g.1.2 in
          record {
            notes = (Reopen worker, Refused e) ∷ [];
            are = inr (refl, (e, refl, refl));
            lead = (standing, subst (λ next. IsNoted (quotas_of accounts) standing (Reopen worker) (Refused e) next) same g.1, refl);
            holds = in_place new was (set_to log new was was s (subst (λ next. Holds accounts slots next (slice_set s.now worker new) (Some was)) same g.2));
          }

      in_doubt : log.next_in_doubt ≡ true → IsTurn accounts slots standing worker (mark_in (slot_of log)) (Err e) (slice_set logs worker new) was
      in_doubt doubt =
          subst (λ (mark : Option ℕ). IsTurn accounts slots standing worker mark (Err e) (slice_set logs worker new) was) (sym (shut log was s doubt)) not_opened

      at_slot : (slot : LogSlot MemDisk) → OnLast (FailsToReopen keeps_rules mem_state failures_of e) log new
          → FailsToReopenAt keeps_rules mem_state failures_of e slot (last_log_of log) (last_log_of new)
          → IsTurn accounts slots standing worker (mark_in slot) (Err e) (slice_set logs worker new) was
      at_slot (Open l) on a =
          let g = one_stops e log new was was s (inl (record { fails = record { does = a; rest = on.rest; doubts = on.doubts; oldest = on.oldest }; same = refl })) in
          record { notes = turn_notes worker (Some l.mark) [] (Err e); are = inl ([], refl); lead = (standing, g.0, refl); holds = in_place new was g.1 }
      at_slot (Failed l) on a = not_opened
      at_slot (Closed disk) on a = not_opened
      at_slot Away on a = not_opened

      looked : (mid : StoreLog MemDisk) → LooksForNext keeps_rules mem_state failures_of log mid → OnLast (FailsToReopen keeps_rules mem_state failures_of e) mid new
          → IsTurn accounts slots standing worker (mark_in (slot_of log)) (Err e) (slice_set logs worker new) was
      looked mid (inl sure) fails =
          let on = subst (λ (l : StoreLog MemDisk). OnLast (FailsToReopen keeps_rules mem_state failures_of e) l new) sure.1 fails in
          at_slot (slot_of log) on on.does
      looked mid (inr found_so) fails = in_doubt found_so.0

      by : FailsToReopenLog keeps_rules mem_state failures_of e log new → IsTurn accounts slots standing worker (mark_in (slot_of log)) (Err e) (slice_set logs worker new) was
      by (inl look) = in_doubt look.0
      by (inr stays) = looked stays.mid stays.looks stays.fails

  turn_err : (upto : ℕ) (e : Refusal) (log new : StoreLog MemDisk) (was is : Serving) → Stood log was
      → FailsToTurn keeps_rules mem_state failures_of DrainsServing worker upto e log new was is
      → IsTurn accounts slots standing worker (mark_in (slot_of log)) (Err e) (slice_set logs worker new) is
  turn_err upto e log new was is s (inl not) =
      subst (λ (x : Serving). IsTurn accounts slots standing worker (mark_in (slot_of log)) (Err e) (slice_set logs worker new) x) (sym not.same) (stays_shut e log new was s not.fails)
  turn_err upto e log new was is s (inr not) = by not.fails
    where
      a : Entered (mark_in (slot_of log)) not.mid was
      a = enters log not.mid was s not.opens

      by : FailsToDrainUpto keeps_rules mem_state failures_of DrainsServing worker upto e not.mid new was is
          → IsTurn accounts slots standing worker (mark_in (slot_of log)) (Err e) (slice_set logs worker new) is
      by (inl w) = absurd (none_fails e (last_log_of not.mid) (last_log_of new) a.is_open a.none w.fails.does)
      by (inr f) = ends (mark_in (slot_of log)) (Err e) not.mid new was is a (stops upto e a.log f.first new was is a.stood (a.kept f.first f.kept) f.fails)

-- a turn of a store that is owned alone
pub owned_turn : (accounts : Accounts) (slots : LiveSlots) (standing : Standing) (serving : Serving) (worker : ℕ) (told : Result ℕ Refusal) (log : StoreLog MemDisk)
    (was : OwnState) (old : List (StoreLog MemDisk)) (is : OwnState) (new : List (StoreLog MemDisk))
    → Holds accounts slots standing old (Some serving) → was.state ≡ serving.state → slice_get old worker ≡ Some log → DoesInMemory (BroughtUp worker told) was old is new
    → IsTurn accounts slots standing worker (mark_in (slot_of log)) told new (with_state is.state serving)
owned_turn accounts slots standing serving worker told log was old is new h same here d = by told d
  where
    k : Keeps accounts slots standing serving (length old) was.state.steps was old
    k = keeps_at_first accounts slots standing serving was old h same

    stood : (x : StoreLog MemDisk) → slice_get old worker ≡ Some x → Stood accounts slots standing old worker x (with_state was.state serving)
    stood x is_there = record { now = old; there = is_there; others = λ y. refl; holds = k.holds }

    at_log : (r : Result ℕ Refusal) (x after : StoreLog MemDisk) → slice_get old worker ≡ Some x → new ≡ slice_set old worker after
        → IsTurn accounts slots standing worker (mark_in (slot_of x)) r (slice_set old worker after) (with_state is.state serving)
        → IsTurn accounts slots standing worker (mark_in (slot_of log)) r new (with_state is.state serving)
    at_log r x after is_there stands t =
        subst (λ ls. IsTurn accounts slots standing worker (mark_in (slot_of log)) r ls (with_state is.state serving)) (sym stands)
        (subst (λ (l : StoreLog MemDisk). IsTurn accounts slots standing worker (mark_in (slot_of l)) r (slice_set old worker after) (with_state is.state serving))
        (same_Some x log (sym is_there ∙ here)) t)

    by : (r : Result ℕ Refusal) → DoesInMemory (BroughtUp worker r) was old is new → IsTurn accounts slots standing worker (mark_in (slot_of log)) r new (with_state is.state serving)
    by (Ok mark) t =
        let b = turns_up serving (length old) was.state.steps worker (within old worker t.before t.there) was.state.steps mark t.before t.after was is t.whose k.ready t.turns in
        at_log (Ok mark) t.before t.after t.there t.stands
        (turn_ok accounts slots standing old worker was.state.steps mark t.before t.after (with_state was.state serving) (with_state is.state serving) (stood t.before t.there) b.0)
    by (Err e) t =
        let b = fails_to_turn serving (length old) was.state.steps worker (within old worker t.before t.there) was.state.steps e t.before t.after was is t.whose k.ready t.turns in
        at_log (Err e) t.before t.after t.there t.stands
        (turn_err accounts slots standing old worker was.state.steps e t.before t.after (with_state was.state serving) (with_state is.state serving) (stood t.before t.there) b.0)
