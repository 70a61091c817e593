-- A turn over a source says the same of what the source shows.
use Rattle.std.proofs.Common.{◌≡◌, inl, inr, ⊎_elim, ℕ, zero, suc, ◌-◌, ◌<◌, Bool, true, false, Result, Ok, Err, refl, sym, subst, ap, arith}
use Rattle.std.proofs.lemmas.Bool.{cases_eq, eqb-true, eqb-false}
use Rattle.std.specs.Prelude.{IfOk, IfErr, OnOk, ◌==◌, if◌then◌else◌}
use Rattle.mt_rows.specs.{declared.record.Batch.Batch, declared.refusal.Refusal.Refusal, declared.refusal.Refusal.TheVariants.LogCount}
use Rattle.mt_disk.specs.Disk.{DiskState}
use Rattle.mt_book.specs.{Happens.{Adds, Acted}, Periods.look_period, declared.desks.Look.Look}
use Rattle.mt_store_logs.specs.{declared.store_log.StoreLog.StoreLog, declared.last_log.LastLog.LastLog, declared.flushing.Flushed.Flushed, Places.worker_of}
use Rattle.mt_store_logs.specs.Flushes.{DrainsIn, FailsToDrain, DrainsShort, DrainsUpto, FailsInDrains, Flushes, FailsToFlush}
use Rattle.mt_store_logs.specs.{LogTurns.{BringsUp, IsNotReopened, FailsToBringUp}, Turns.{FlushesLog, FailsToFlushLog, FlushesAndBegins, FailsToFlushAndBegin, GivesUpOlderLog, FailsToGiveUpOlderLog}}
use Rattle.mt_store_logs.specs.FailedFiles.{failed_generation, was_refused_at, told_by}
use Rattle.mt_settle.specs.{Turns.{Turn, BroughtUp, BegunNext, GivenUp, mark_told}, Parts.{EachOf, BeginsOne}}
use Rattle.mt_stored.specs.{Begins.{FlushesOrBegins, FailsToFlushOrBegin, BringsUpAndBegins, FailsToBringUpAndBegin}, Shared.{Seen, Somewhere, gives_batch, gone_as, DoesShared}}

module _ {D S : Type 0} (is_honest : D → Bool) (state : D → DiskState) (failures : D → ℕ) (from : S → S → ℕ → Batch → Type 0) (shown : S → Seen)
    (drained : (s t : S) (worker : ℕ) (batch : Batch) → from s t worker batch → gives_batch (shown s) (shown t) worker batch) where
  -- ---- what drains the worker

  module _ (worker upto : ℕ) where
    drains_in : (mark : ℕ) (old new : LastLog D) (was is : S) → DrainsIn is_honest state failures from worker upto mark old new was is
        → DrainsIn is_honest state failures gives_batch worker upto mark old new (shown was) (shown is)
    drains_in mark old new was is d = record {
      batch = d.batch;
      given = drained was is worker d.batch d.given;
      bounded = d.bounded;
      brings = d.brings;
      appended = d.appended;
      told = d.told;
    }

    short : (n : ℕ) (old new : LastLog D) (was is : S) → DrainsShort is_honest state failures from worker n upto old new was is
        → DrainsShort is_honest state failures gives_batch worker n upto old new (shown was) (shown is)
    short zero old new was is same = (same.0, ap shown same.1)
    short (suc n) old new was is (mark, mid, between, before, last, less) =
        (mark, mid, shown between, short n old mid was between before, drains_in mark mid new between is last, less)

    fails_to_drain : (e : Refusal) (old new : LastLog D) (was is : S) → FailsToDrain is_honest state failures from worker e old new was is
        → FailsToDrain is_honest state failures gives_batch worker e old new (shown was) (shown is)
    fails_to_drain e old new was is (inl none) = inl (record { same_log = none.same_log; same = ap shown none.same; told = none.told })
    fails_to_drain e old new was is (inr kept) =
        inr (record { batch = kept.batch; given = drained was is worker kept.batch kept.given; bounded = kept.bounded; fails = kept.fails })

    upto_there : (mark : ℕ) (old new : LastLog D) (was is : S) → DrainsUpto is_honest state failures from worker upto mark old new was is
        → DrainsUpto is_honest state failures gives_batch worker upto mark old new (shown was) (shown is)
    upto_there mark old new was is (d, there) = (
      record { times = d.times; mid = d.mid; between = shown d.between; short = short d.times old d.mid was d.between d.short; last = drains_in mark d.mid new d.between is d.last },
      there,
    )

    fails_in_drains : (e : Refusal) (old new : LastLog D) (was is : S) → FailsInDrains is_honest state failures from worker upto e old new was is
        → FailsInDrains is_honest state failures gives_batch worker upto e old new (shown was) (shown is)
    fails_in_drains e old new was is f =
        record { times = f.times; mid = f.mid; between = shown f.between; short = short f.times old f.mid was f.between f.short; fails = fails_to_drain e f.mid new f.between is f.fails }

    flushes : (mark : ℕ) (old new : LastLog D) (was is : S) → Flushes is_honest state failures from worker upto mark old new was is
        → Flushes is_honest state failures gives_batch worker upto mark old new (shown was) (shown is)
    flushes mark old new was is f = record { first = f.first; kept = f.kept; drains = upto_there mark f.first new was is f.drains }

    fails_to_flush : (e : Refusal) (old new : LastLog D) (was is : S) → FailsToFlush is_honest state failures from worker upto e old new was is
        → FailsToFlush is_honest state failures gives_batch worker upto e old new (shown was) (shown is)
    fails_to_flush e old new was is (inl waits) = inl (record { fails = waits.fails; same = ap shown waits.same })
    fails_to_flush e old new was is (inr stops) =
        inr (record { first = stops.first; kept = stops.kept; fails = fails_in_drains e stops.first new was is stops.fails })

  -- ---- a log

  module _ (upto : ℕ) where
    flushes_log : (mark : ℕ) (old new : StoreLog D) (was is : S) → FlushesLog is_honest state failures from upto mark old new was is
        → FlushesLog is_honest state failures gives_batch upto mark old new (shown was) (shown is)
    flushes_log mark old new was is f = record { does = flushes (worker_of old) upto mark _ _ was is f.does; rest = f.rest; doubts = f.doubts; oldest = f.oldest }

    fails_to_flush_log : (e : Refusal) (old new : StoreLog D) (was is : S) → FailsToFlushLog is_honest state failures from upto e old new was is
        → FailsToFlushLog is_honest state failures gives_batch upto e old new (shown was) (shown is)
    fails_to_flush_log e old new was is f = record { does = fails_to_flush (worker_of old) upto e _ _ was is f.does; rest = f.rest; doubts = f.doubts; oldest = f.oldest }

    not_reopened : (e : Refusal) (old new : StoreLog D) (was is : S) → IsNotReopened is_honest state failures from upto e old new was is
        → IsNotReopened is_honest state failures gives_batch upto e old new (shown was) (shown is)
    not_reopened e old new was is n = record { fails = n.fails; same = ap shown n.same }

    pub brings_up : (mark : ℕ) (old new : StoreLog D) (was is : S) → BringsUp is_honest state failures from upto mark old new was is
        → BringsUp is_honest state failures gives_batch upto mark old new (shown was) (shown is)
    brings_up mark old new was is b = record { mid = b.mid; opens = b.opens; flushes = flushes_log mark b.mid new was is b.flushes }

    pub fails_to_bring_up : (e : Refusal) (old new : StoreLog D) (was is : S) → FailsToBringUp is_honest state failures from upto e old new was is
        → FailsToBringUp is_honest state failures gives_batch upto e old new (shown was) (shown is)
    fails_to_bring_up e old new was is (inl none) = inl (not_reopened e old new was is none)
    fails_to_bring_up e old new was is (inr f) = inr (record { mid = f.mid; opens = f.opens; fails = fails_to_flush_log e f.mid new was is f.fails })

    -- ---- a log that goes to a generation

    and_begins : (mark : ℕ) (old new : StoreLog D) (was is : S) → FlushesAndBegins is_honest state failures from upto mark old new was is
        → FlushesAndBegins is_honest state failures gives_batch upto mark old new (shown was) (shown is)
    and_begins mark old new was is f = record { mid = f.mid; flushes = flushes_log mark old f.mid was is f.flushes; begins = f.begins }

    fails_and_begins : (e : Refusal) (old new : StoreLog D) (was is : S) → FailsToFlushAndBegin is_honest state failures from upto e old new was is
        → FailsToFlushAndBegin is_honest state failures gives_batch upto e old new (shown was) (shown is)
    fails_and_begins e old new was is (inl f) = inl (fails_to_flush_log e old new was is f)
    fails_and_begins e old new was is (inr f) = inr (record { mid = f.mid; mark = f.mark; flushes = flushes_log f.mark old f.mid was is f.flushes; fails = f.fails })

    or_begins : (generation mark : ℕ) (old new : StoreLog D) (was is : S) → FlushesOrBegins is_honest state failures from upto generation mark old new was is
        → FlushesOrBegins is_honest state failures gives_batch upto generation mark old new (shown was) (shown is)
    or_begins generation mark old new was is (inl (less, f)) = inl (less, and_begins mark old new was is f)
    or_begins generation mark old new was is (inr (there, f)) = inr (there, flushes_log mark old new was is f)

    fails_or_begins : (generation : ℕ) (e : Refusal) (old new : StoreLog D) (was is : S) → FailsToFlushOrBegin is_honest state failures from upto generation e old new was is
        → FailsToFlushOrBegin is_honest state failures gives_batch upto generation e old new (shown was) (shown is)
    fails_or_begins generation e old new was is (inl (less, f)) = inl (less, fails_and_begins e old new was is f)
    fails_or_begins generation e old new was is (inr (there, f)) = inr (there, fails_to_flush_log e old new was is f)

    pub brings_up_and_begins : (generation mark : ℕ) (old new : StoreLog D) (was is : S) → BringsUpAndBegins is_honest state failures from upto generation mark old new was is
        → BringsUpAndBegins is_honest state failures gives_batch upto generation mark old new (shown was) (shown is)
    brings_up_and_begins generation mark old new was is b = record { mid = b.mid; opens = b.opens; begins = or_begins generation mark b.mid new was is b.begins }

    pub fails_to_bring_up_and_begin : (generation : ℕ) (e : Refusal) (old new : StoreLog D) (was is : S)
        → FailsToBringUpAndBegin is_honest state failures from upto generation e old new was is
        → FailsToBringUpAndBegin is_honest state failures gives_batch upto generation e old new (shown was) (shown is)
    fails_to_bring_up_and_begin generation e old new was is (inl none) = inl (not_reopened e old new was is none)
    fails_to_bring_up_and_begin generation e old new was is (inr f) = inr (record { mid = f.mid; opens = f.opens; fails = fails_or_begins generation e f.mid new was is f.fails })

  -- ---- a turn

  module _ (was_refused : D → Bool) (log : ℕ) (before after : StoreLog D) (was is : S) (old : Seen) (whose : worker_of before ≡ log) (look : Look) (looked : Adds (Acted (look_period look)) old (shown was)) where
    abbrev refused : Bool
    refused = was_refused_at was_refused (failed_generation after) after.log.files

    brought_so : (r : Result Flushed Refusal)
        → IfOk r (λ f. BringsUp is_honest state failures from look.steps f.mark before after was is)
        → IfErr r (λ e. FailsToBringUp is_honest state failures from look.steps e before after was is)
        → DoesShared is_honest state failures was_refused old (BroughtUp log (mark_told (told_by refused r))) (shown is)
    brought_so (Ok f) ok err = record {
      look = look;
      seen = shown was;
      looked = looked;
      turned = record { before = before; after = after; whose = whose; does = brings_up look.steps f.mark before after was is ok };
    }
    brought_so (Err e) ok err = inr (record {
      look = look;
      seen = shown was;
      looked = looked;
      turned = record { before = before; after = after; whose = whose; does = record { refusal = e; fails = fails_to_bring_up look.steps e before after was is err; is = refl } };
    })

    -- a log that was brought up so far is at the generation then, or is not
    abbrev at : ℕ
    at = after.log.generation

    begun_at : (generation : ℕ) (f : Flushed) → BringsUpAndBegins is_honest state failures from look.steps generation f.mark before after was is
        → (flag : Bool) → (at == generation) ≡ flag
        → DoesShared is_honest state failures was_refused old (BegunNext log generation (mark_told (if flag then Ok f else Err LogCount))) (shown is)
    begun_at generation f ok true there = record {
      look = look;
      seen = shown was;
      looked = looked;
      turned = record { before = before; after = after; whose = whose; does = (brings_up_and_begins look.steps generation f.mark before after was is ok, eqb-true at generation there) };
    }
    begun_at generation f ok false other = inr (record {
      look = look;
      seen = shown was;
      looked = looked;
      turned = record {
        before = before;
        after = after;
        whose = whose;
        does = inr (refl, (f.mark, brings_up_and_begins look.steps generation f.mark before after was is ok), eqb-false at generation other);
      };
    })

    begun_so : (generation : ℕ) (r : Result Flushed Refusal)
        → IfOk r (λ f. BringsUpAndBegins is_honest state failures from look.steps generation f.mark before after was is)
        → IfErr r (λ e. FailsToBringUpAndBegin is_honest state failures from look.steps generation e before after was is)
        → DoesShared is_honest state failures was_refused old (BegunNext log generation (mark_told (gone_as at generation (told_by refused r)))) (shown is)
    begun_so generation (Ok f) ok err = begun_at generation f ok (at == generation) refl
    begun_so generation (Err e) ok err = inr (record {
      look = look;
      seen = shown was;
      looked = looked;
      turned = record { before = before; after = after; whose = whose; does = inl (record { refusal = e; fails = fails_to_bring_up_and_begin look.steps generation e before after was is err; is = refl }) };
    })

    -- and what is told of it
    module _ (r told : Result Flushed Refusal) (so : told ≡ told_by refused r) where
      pub brought : IfOk r (λ f. BringsUp is_honest state failures from look.steps f.mark before after was is)
          → IfErr r (λ e. FailsToBringUp is_honest state failures from look.steps e before after was is)
          → DoesShared is_honest state failures was_refused old (BroughtUp log (mark_told told)) (shown is)
      brought ok err =
          subst (λ (x : Result Flushed Refusal). DoesShared is_honest state failures was_refused old (BroughtUp log (mark_told x)) (shown is)) (sym so) (brought_so r ok err)

      pub begun : (generation : ℕ) → IfOk r (λ f. BringsUpAndBegins is_honest state failures from look.steps generation f.mark before after was is)
          → IfErr r (λ e. FailsToBringUpAndBegin is_honest state failures from look.steps generation e before after was is)
          → DoesShared is_honest state failures was_refused old (BegunNext log generation (mark_told (gone_as at generation told))) (shown is)
      begun generation ok err =
          subst (λ (x : Result Flushed Refusal). DoesShared is_honest state failures was_refused old (BegunNext log generation (mark_told (gone_as at generation x))) (shown is)) (sym so)
          (begun_so generation r ok err)

-- what was flushed is told of the same worker
told_whose : (log : ℕ) (b : Bool) (r : Result Flushed Refusal) → IfOk r (λ f. f.worker ≡ log) → IfOk (told_by b r) (λ f. f.worker ≡ log)
told_whose log b (Ok f) ok = ok
told_whose log b (Err e) ok = tt

pub whose_is_told : (log : ℕ) (b : Bool) (r told : Result Flushed Refusal) → told ≡ told_by b r → IfOk r (λ f. f.worker ≡ log) → IfOk told (λ f. f.worker ≡ log)
whose_is_told log b r told so ok = subst (λ (x : Result Flushed Refusal). IfOk x (λ f. f.worker ≡ log)) (sym so) (told_whose log b r ok)

pub gone_whose : (log last generation : ℕ) (r : Result Flushed Refusal) → IfOk r (λ f. f.worker ≡ log) → IfOk (gone_as last generation r) (λ f. f.worker ≡ log)
gone_whose log last generation (Err e) ok = tt
gone_whose log last generation (Ok f) ok = by (last == generation)
  where
    by : (flag : Bool) → IfOk (if flag then Ok f else Err LogCount) (λ f. f.worker ≡ log)
    by true = ok
    by false = tt

-- ---- each log goes to the generation of a turn

module _ {D S : Type 0} (is_honest : D → Bool) (state : D → DiskState) (failures : D → ℕ) (was_refused : D → Bool) (seen : S → Seen) (generation : ℕ) where
  abbrev does : S → Turn → S → Type 0
  does s turn t = DoesShared is_honest state failures was_refused (seen s) turn (seen t)

  pub each_goes : (count : ℕ) (old new : S) → EachOf (BeginsOne does generation) count old new → (log : ℕ) → log < count
      → Somewhere (λ (before after : StoreLog D). after.log.generation ≡ generation) log
  each_goes zero old new none log less = absurd (omega (arith, less))
  each_goes (suc last) old new (mid, before, one) log less =
      ⊎_elim
      (λ (e : log ≡ last).
      let turned = one.1.turned in
      subst (λ (n : ℕ). Somewhere (λ (before after : StoreLog D). after.log.generation ≡ generation) n) (sym e)
      (record { before = turned.before; after = turned.after; whose = turned.whose; does = turned.does.1 }))
      (λ other. each_goes last old mid before log (omega (arith, less, other)))
      (cases_eq log last)

module _ {D : Type 0} (is_honest : D → Bool) (state : D → DiskState) (failures : D → ℕ) (was_refused : D → Bool) (log : ℕ) (before after : StoreLog D) (whose : worker_of before ≡ log) (seen : Seen) where
  given_up_so : (r : Result (Unit {0}) Refusal) → OnOk r (GivesUpOlderLog is_honest state failures before after)
      → IfErr r (λ e. FailsToGiveUpOlderLog is_honest state failures e before after)
      → DoesShared is_honest state failures was_refused seen (GivenUp log (told_by (was_refused_at was_refused (after.log.generation - 1) after.log.files) r)) seen
  given_up_so (Ok _) ok err = (record { before = before; after = after; whose = whose; does = ok }, refl)
  given_up_so (Err e) ok err = (inr (record { before = before; after = after; whose = whose; does = record { refusal = e; fails = err; is = refl } }), refl)

  pub given_up : (r told : Result (Unit {0}) Refusal) → told ≡ told_by (was_refused_at was_refused (after.log.generation - 1) after.log.files) r
      → OnOk r (GivesUpOlderLog is_honest state failures before after)
      → IfErr r (λ e. FailsToGiveUpOlderLog is_honest state failures e before after) → DoesShared is_honest state failures was_refused seen (GivenUp log told) seen
  given_up r told so ok err = subst (λ (x : Result (Unit {0}) Refusal). DoesShared is_honest state failures was_refused seen (GivenUp log x) seen) (sym so) (given_up_so r ok err)
