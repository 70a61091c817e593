-- What turns make of a store that is owned alone: no step is made, and a log that was brought up goes up to all that were; for the store's calls and the law of its Settle.
use Rattle.std.proofs.Common.{◌≡◌, ◌≢◌, ⊎_elim, ℕ, zero, suc, ◌+◌, ◌<◌, ◌≤◌, Bool, List, [], ◌∷◌, ◌++◌, length, Some, Result, Ok, Err, refl, sym, ap, ◌∙◌, arith}
use Rattle.std.proofs.{lemmas.List.length-set, lemmas.Option.{same_Some, slice_get_within}, Math.Nat.eq-or-lt_of_le}
use Rattle.std.specs.Prelude.{slice_get, slice_set, slice_index_or, IfOk, IfErr, OnOk}
use Rattle.mt_rows.specs.{declared.record.Batch.Batch, declared.refusal.Refusal.Refusal}
use Rattle.mt_disk.specs.Disk.{DiskState}
use Rattle.mt_state.specs.Views.{StateView}
use Rattle.mt_store_logs.specs.{declared.last_log.LastLog.LastLog, declared.store_log.StoreLog.StoreLog, Places.{mark_in, slot_of, worker_of, last_log_of}}
use Rattle.mt_store_logs.specs.Flushes.{DrainsShort, HasDrained, Flushes, FailsToFlush}
use Rattle.mt_store_logs.specs.{declared.flushing.Flushed.Flushed, LogTurns.{BringsUp, FailsToBringUp}}
use Rattle.mt_store_logs.specs.Turns.{FlushesLog, FailsToFlushLog, GivesUpOlderLog, FailsToGiveUpOlderLog}
use Rattle.mt_settle.specs.{Turns.{Turn, BroughtUp, BegunNext, GivenUp, Told, mark_told, Chain}, Settles.{turns_from, Settles}}
use Rattle.mt_stored.specs.{declared.source.OwnState.OwnState, Stores.{gives_own, DoesStore, IsSettled}}
use Rattle.mt_stored.specs.Begins.{BringsUpAndBegins, FailsToBringUpAndBegin}

-- no step was made, and there are as many logs
abbrev pub Stays : OwnState → OwnState → Type 0
Stays was is = (is.state.steps ≡ was.state.steps) × (length is.state.logs ≡ length was.state.logs)

same : (was is : OwnState) → is ≡ was → Stays was is
same was is e = (ap (λ (s : OwnState). s.state.steps) e, ap (λ (s : OwnState). length s.state.logs) e)

drained : (was is : OwnState) (worker : ℕ) (batch : Batch) → gives_own was is worker batch → Stays was is
drained was is worker batch d =
    (ap (λ (v : StateView). v.steps) d.stands, ap (λ (v : StateView). length v.logs) d.stands ∙ length-set was.state.logs worker batch.to)

then : (a b c : OwnState) → Stays a b → Stays b c → Stays a c
then a b c one two = (two.0 ∙ one.0, two.1 ∙ one.1)

pub set_there : {X : Type 0} (xs : List X) (i : ℕ) (y : X) → i < length xs → slice_get (slice_set xs i y) i ≡ Some y
set_there [] i y h = absurd (omega (arith, h))
set_there (x ∷ xs) zero y h = refl
set_there (x ∷ xs) (suc i) y h = set_there xs i y (omega (arith, h))

pub set_other : {X : Type 0} (xs : List X) (i k : ℕ) (y : X) → k ≢ i → slice_get (slice_set xs i y) k ≡ slice_get xs k
set_other [] i k y h = refl
set_other (x ∷ xs) zero zero y h = absurd (h refl)
set_other (x ∷ xs) zero (suc k) y h = refl
set_other (x ∷ xs) (suc i) zero y h = refl
set_other (x ∷ xs) (suc i) (suc k) y h = set_other xs i k y (λ e. h (ap suc e))

-- each of some marks is the same number, with one more
told_more : (m steps : ℕ) (ms : List ℕ) → m ≡ steps → ((k d : ℕ) → k < length ms → slice_index_or ms k d ≡ steps)
    → (k d : ℕ) → k < length (m ∷ ms) → slice_index_or (m ∷ ms) k d ≡ steps
told_more m steps ms is all zero d less = is
told_more m steps ms is all (suc k) d less = all k d (omega (arith, less))

module _ {D : Type 0} (is_honest : D → Bool) (state : D → DiskState) (failures : D → ℕ) where
  in_short : (worker upto n : ℕ) (old new : LastLog D) (was is : OwnState) → DrainsShort is_honest state failures gives_own worker n upto old new was is → Stays was is
  in_short worker upto zero old new was is s = same was is s.1
  in_short worker upto (suc n) old new was is (mark, mid, between, rest, d, less) =
      then was between is (in_short worker upto n old mid was between rest) (drained between is worker d.batch d.given)

  in_drains : (worker upto mark : ℕ) (old new : LastLog D) (was is : OwnState) → HasDrained is_honest state failures gives_own worker upto mark old new was is → Stays was is
  in_drains worker upto mark old new was is h =
      then was h.between is (in_short worker upto h.times old h.mid was h.between h.short) (drained h.between is worker h.last.batch h.last.given)

  in_flush : (worker upto : ℕ) (refusal : Refusal) (old new : LastLog D) (was is : OwnState)
      → FailsToFlush is_honest state failures gives_own worker upto refusal old new was is → Stays was is
  in_flush worker upto refusal old new was is f =
      ⊎_elim
      (λ waits. same was is waits.same)
      (λ stops.
      let d = stops.fails in
      then was d.between is (in_short worker upto d.times stops.first d.mid was d.between d.short)
      (⊎_elim (λ none. same d.between is none.same) (λ keeps. drained d.between is worker keeps.batch keeps.given) d.fails))
      f

  in_bring_up : (upto : ℕ) (refusal : Refusal) (old new : StoreLog D) (was is : OwnState)
      → FailsToBringUp is_honest state failures gives_own upto refusal old new was is → Stays was is
  in_bring_up upto refusal old new was is f =
      ⊎_elim (λ closed. same was is closed.same)
      (λ not. in_flush (worker_of not.mid) upto refusal (last_log_of not.mid) (last_log_of new) was is not.fails.does) f

  brought_up : (upto mark : ℕ) (old new : StoreLog D) (was is : OwnState) → BringsUp is_honest state failures gives_own upto mark old new was is → Stays was is
  brought_up upto mark old new was is b =
      let f = b.flushes.does in
      in_drains (worker_of b.mid) upto mark f.first (last_log_of new) was is f.drains.0

  flushed : (upto mark : ℕ) (old new : StoreLog D) (was is : OwnState) → FlushesLog is_honest state failures gives_own upto mark old new was is → Stays was is
  flushed upto mark old new was is f =
      in_drains (worker_of old) upto mark f.does.first (last_log_of new) was is f.does.drains.0

  not_flushed : (upto : ℕ) (refusal : Refusal) (old new : StoreLog D) (was is : OwnState) → FailsToFlushLog is_honest state failures gives_own upto refusal old new was is → Stays was is
  not_flushed upto refusal old new was is f = in_flush (worker_of old) upto refusal (last_log_of old) (last_log_of new) was is f.does

  begun_next : (upto generation mark : ℕ) (old new : StoreLog D) (was is : OwnState)
      → BringsUpAndBegins is_honest state failures gives_own upto generation mark old new was is → Stays was is
  begun_next upto generation mark old new was is b =
      ⊎_elim (λ next. flushed upto mark b.mid next.1.mid was is next.1.flushes) (λ there. flushed upto mark b.mid new was is there.1) b.begins

  not_begun : (upto generation : ℕ) (refusal : Refusal) (old new : StoreLog D) (was is : OwnState)
      → FailsToBringUpAndBegin is_honest state failures gives_own upto generation refusal old new was is → Stays was is
  not_begun upto generation refusal old new was is f =
      ⊎_elim (λ closed. same was is closed.same)
      (λ opens.
      ⊎_elim
      (λ next.
      ⊎_elim (λ not. not_flushed upto refusal opens.mid new was is not) (λ only. flushed upto only.mark opens.mid only.mid was is only.flushes) next.1)
      (λ there. not_flushed upto refusal opens.mid new was is there.1)
      opens.fails)
      f

  turn_stays : (turn : Turn) (was : OwnState) (old : List (StoreLog D)) (is : OwnState) (new : List (StoreLog D)) → DoesStore is_honest state failures turn was old is new → Stays was is
  turn_stays (BroughtUp log (Ok mark)) was old is new t = brought_up was.state.steps mark t.before t.after was is t.turns
  turn_stays (BroughtUp log (Err e)) was old is new t = in_bring_up was.state.steps e t.before t.after was is t.turns
  turn_stays (BegunNext log generation (Ok mark)) was old is new t = begun_next was.state.steps generation mark t.before t.after was is t.turns
  turn_stays (BegunNext log generation (Err e)) was old is new t = not_begun was.state.steps generation e t.before t.after was is t.turns
  turn_stays (GivenUp log (Ok x)) was old is new t = same was is t.turns.1
  turn_stays (GivenUp log (Err e)) was old is new t = same was is t.turns.1
  turn_stays (Told log (Ok told)) was old is new t = same was is t.3
  turn_stays (Told log (Err e)) was old is new t = absurd t

  -- a log that was brought up, or was not, had a turn of the store
  pub turned : (log : ℕ) (r : Result Flushed Refusal) (was is : OwnState) (old : List (StoreLog D)) (before after : StoreLog D) → slice_get old log ≡ Some before
      → worker_of before ≡ log
      → IfOk r (λ f. BringsUp is_honest state failures gives_own was.state.steps f.mark before after was is)
      → IfErr r (λ e. FailsToBringUp is_honest state failures gives_own was.state.steps e before after was is)
      → DoesStore is_honest state failures (BroughtUp log (mark_told r)) was old is (slice_set old log after)
  turned log (Ok f) was is old before after there whose ok err = record { before = before; there = there; whose = whose; after = after; stands = refl; turns = ok }
  turned log (Err e) was is old before after there whose ok err = record { before = before; there = there; whose = whose; after = after; stands = refl; turns = err }

  -- one that was to go to a generation had one too
  pub turned_next : (log generation : ℕ) (r : Result Flushed Refusal) (was is : OwnState) (old : List (StoreLog D)) (before after : StoreLog D) → slice_get old log ≡ Some before
      → worker_of before ≡ log
      → IfOk r (λ f. BringsUpAndBegins is_honest state failures gives_own was.state.steps generation f.mark before after was is)
      → IfErr r (λ e. FailsToBringUpAndBegin is_honest state failures gives_own was.state.steps generation e before after was is)
      → DoesStore is_honest state failures (BegunNext log generation (mark_told r)) was old is (slice_set old log after)
  turned_next log generation (Ok f) was is old before after there whose ok err =
      record { before = before; there = there; whose = whose; after = after; stands = refl; turns = ok }
  turned_next log generation (Err e) was is old before after there whose ok err =
      record { before = before; there = there; whose = whose; after = after; stands = refl; turns = err }

  -- and one whose older log was to be given up
  pub given_up : (log : ℕ) (r : Result (Unit {0}) Refusal) (was : OwnState) (old : List (StoreLog D)) (before after : StoreLog D) → slice_get old log ≡ Some before
      → worker_of before ≡ log
      → OnOk r (GivesUpOlderLog is_honest state failures before after)
      → IfErr r (λ e. FailsToGiveUpOlderLog is_honest state failures e before after)
      → DoesStore is_honest state failures (GivenUp log r) was old was (slice_set old log after)
  given_up log (Ok x) was old before after there whose ok err = record { before = before; there = there; whose = whose; after = after; stands = refl; turns = (ok, refl) }
  given_up log (Err e) was old before after there whose ok err = record { before = before; there = there; whose = whose; after = after; stands = refl; turns = (err, refl) }

  -- with a next log the store has as many logs
  pub as_many_next : (upto generation : ℕ) (r : Result Flushed Refusal) (was is : OwnState) (before after : StoreLog D)
      → IfOk r (λ f. BringsUpAndBegins is_honest state failures gives_own upto generation f.mark before after was is)
      → IfErr r (λ e. FailsToBringUpAndBegin is_honest state failures gives_own upto generation e before after was is)
      → length is.state.logs ≡ length was.state.logs
  as_many_next upto generation (Ok f) was is before after ok err = (begun_next upto generation f.mark before after was is ok).1
  as_many_next upto generation (Err e) was is before after ok err = (not_begun upto generation e before after was is err).1

  -- and the store has as many logs
  pub as_many : (upto : ℕ) (r : Result Flushed Refusal) (was is : OwnState) (before after : StoreLog D)
      → IfOk r (λ f. BringsUp is_honest state failures gives_own upto f.mark before after was is)
      → IfErr r (λ e. FailsToBringUp is_honest state failures gives_own upto e before after was is)
      → length is.state.logs ≡ length was.state.logs
  as_many upto (Ok f) was is before after ok err = (brought_up upto f.mark before after was is ok).1
  as_many upto (Err e) was is before after ok err = (in_bring_up upto e before after was is err).1

  -- what a flush up to the last step tells is that step, and the log goes up to there
  told_is : (worker mark : ℕ) (old new : LastLog D) (was is : OwnState) → Flushes is_honest state failures gives_own worker was.state.steps mark old new was is
      → (mark ≡ was.state.steps) × (mark_in new.slot ≡ Some mark)
  told_is worker mark old new was is f =
      let h = f.drains.0 in
      let made = h.last.given.next.made in
      let before = in_short worker was.state.steps h.times f.first h.mid was h.between h.short in
      (omega (arith, h.last.told, made, before.0, f.drains.1), h.last.appended.mark ∙ ap Some (sym h.last.told))

  module _ {S : Type 0} (source : S → OwnState) (logs : S → List (StoreLog D)) where
    abbrev does : S → Turn → S → Type 0
    does old turn new = DoesStore is_honest state failures turn (source old) (logs old) (source new) (logs new)

    chain_stays : (turns : List Turn) (old new : S) → Chain does old turns new → (source new).state.steps ≡ (source old).state.steps
    chain_stays [] old new chain = ap (λ (s : S). (source s).state.steps) chain
    chain_stays (t ∷ ts) old new (mid, d, rest) =
        let first = turn_stays t (source old) (logs old) (source mid) (logs mid) d in
        chain_stays ts mid new rest ∙ first.0

    -- a Settle makes no step
    pub no_step : (r : Result ℕ Refusal) (count : ℕ) (old new : S) → Settles does count old new r → (source new).state.steps ≡ (source old).state.steps
    no_step (Ok n) count old new s = chain_stays (turns_from 0 s.marks) old new s.turns
    no_step (Err e) count old new s = ⊎_elim
        (λ none. ap (λ (s : S). (source s).state.steps) none.2)
        (λ stops. chain_stays (turns_from 0 stops.marks ++ BroughtUp (length stops.marks) (Err e) ∷ []) old new stops.turns)
        s

    -- the logs from one on were brought up: each goes up to the last step, which was told of it
    record AreUp (log : ℕ) (marks : List ℕ) (old new : S) : Type 0 where
      steps : (source new).state.steps ≡ (source old).state.steps
      count : length (logs new) ≡ length (logs old)
      before : (k : ℕ) → k < log → slice_get (logs new) k ≡ slice_get (logs old) k
      up : (k : ℕ) (l : StoreLog D) → log ≤ k → k < log + length marks → slice_get (logs new) k ≡ Some l → mark_in (slot_of l) ≡ Some (source old).state.steps
      told : (k d : ℕ) → k < length marks → slice_index_or marks k d ≡ (source old).state.steps

    all_up : (log : ℕ) (marks : List ℕ) (old new : S) → Chain does old (turns_from log marks) new → AreUp log marks old new
    all_up log [] old new chain = record {
      steps = ap (λ (s : S). (source s).state.steps) chain;
      count = ap (λ (s : S). length (logs s)) chain;
      before = λ k less. ap (λ (s : S). slice_get (logs s) k) chain;
      up = λ k l from to there. absurd (omega (arith, from, to));
      told = λ k d less. absurd (omega (arith, less));
    }
    all_up log (m ∷ ms) old new (mid, d, rest) =
        let h = all_up (log + 1) ms mid new rest in
        let first : Stays (source old) (source mid) = turn_stays (BroughtUp log (Ok m)) (source old) (logs old) (source mid) (logs mid) d in
        let told = told_is (worker_of d.turns.mid) m (last_log_of d.turns.mid) (last_log_of d.after) (source old) (source mid) d.turns.flushes.does in
        let mark : m ≡ (source old).state.steps = told.0 in
        let there : slice_get (logs new) log ≡ Some d.after =
        h.before log (omega arith) ∙ ap (λ (ls : List (StoreLog D)). slice_get ls log) d.stands
        ∙ set_there (logs old) log d.after (slice_get_within (logs old) log d.before d.there) in
        record {
          steps = h.steps ∙ first.0;
          count = h.count ∙ ap (λ (ls : List (StoreLog D)). length ls) d.stands ∙ length-set (logs old) log d.after;
          before = λ k less.
              h.before k (omega (arith, less)) ∙ ap (λ (ls : List (StoreLog D)). slice_get ls k) d.stands
              ∙ set_other (logs old) log k d.after (λ e. omega (arith, e, less));
          up = λ k l from to is. ⊎_elim
              (λ (e : log ≡ k).
              let own : d.after ≡ l = same_Some d.after l (sym there ∙ ap (slice_get (logs new)) e ∙ is) in
              ap (λ (x : StoreLog D). mark_in (slot_of x)) (sym own) ∙ told.1 ∙ ap Some mark)
              (λ (less : log < k). h.up k l (omega (arith, less)) (omega (arith, to)) is ∙ ap Some first.0)
              (eq-or-lt_of_le from);
          told = told_more m (source old).state.steps ms mark (λ k d less. h.told k d less ∙ first.0);
        }

    -- a settled number is that of all steps, and each log goes up to it
    pub settled : (n count : ℕ) (old new : S) → length (logs old) ≤ count → Settles does count old new (Ok n) → (n ≡ (source old).state.steps) × IsSettled (source new).state (logs new)
    settled n count old new all s =
        let up = all_up 0 s.marks old new s.turns in
        let among = s.least.among in (
          sym among.2 ∙ up.told among.0 n among.1,
          λ k l there.
              let within = slice_get_within (logs new) k l there in
              up.up k l (omega arith) (omega (arith, within, up.count, all, s.all)) there ∙ ap Some (sym up.steps),
        )
