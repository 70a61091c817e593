-- A worker that is drained towards a step: each drain short of it brings the log 4,096 steps on.
use Rattle.std.proofs.{Common.{◌≡◌, ◌⊎◌, ℕ, suc, ◌+◌, ◌-◌, ◌<◌, ◌≤◌, Bool, Some, sym, ap, ◌∙◌, inl, inr, ⊎_elim, arith}, lemmas.Option.same_Some}
use Rattle.mt_rows.specs.{declared.record.Batch.Batch, declared.refusal.Refusal.Refusal}
use Rattle.mt_disk.specs.Disk.{DiskState}
use Rattle.mt_batches.proofs.Climbing.{goes_on}
use Rattle.mt_store_logs.specs.{declared.last_log.LastLog.LastLog, Places.mark_in, Flushes.{DrainsIn, HasDrained, FailsToDrain, FailsInDrains}}

module _ {D S : Type 0} (is_honest : D → Bool) (state : D → DiskState) (failures : D → ℕ) (gives : S → S → ℕ → Batch → Type 0) (worker upto : ℕ) where
  -- a drain goes up to the step, or at least 4,096 steps on
  drained_on : (mark next : ℕ) (old new : LastLog D) (was is : S) → mark_in old.slot ≡ Some mark
      → DrainsIn is_honest state failures gives worker upto next old new was is → (upto ≤ next) ⊎ (mark + 4096 ≤ next)
  drained_on mark next old new was is at d =
      let from : d.batch.from ≡ mark = same_Some d.batch.from mark (sym d.appended.turn ∙ at) in
      ⊎_elim
      (λ there. inl (omega (arith, there, d.told)))
      (λ full. let on = goes_on d.batch d.bounded.in_order in inr (omega (arith, on, full, from, d.told)))
      d.brings

  -- the log goes up to the step that was told
  at_mark : (mark : ℕ) (old new : LastLog D) (was is : S) → HasDrained is_honest state failures gives worker upto mark old new was is → mark_in new.slot ≡ Some mark
  at_mark mark old new was is h = h.last.appended.mark ∙ ap Some (sym h.last.told)

  pub smaller : (mark next : ℕ) (old log new : LastLog D) (was source is : S) → HasDrained is_honest state failures gives worker upto mark old log was source → mark < upto
      → DrainsIn is_honest state failures gives worker upto next log new source is → upto - next < upto - mark
  smaller mark next old log new was source is h short d =
      let on = drained_on mark next log new source is (at_mark mark old log was source h) d in
      ⊎_elim (λ there. omega (arith, there, short)) (λ more. omega (arith, more, short)) on

  -- once more
  pub more : (mark next : ℕ) (old log new : LastLog D) (was source is : S) → HasDrained is_honest state failures gives worker upto mark old log was source → mark < upto
      → DrainsIn is_honest state failures gives worker upto next log new source is → HasDrained is_honest state failures gives worker upto next old new was is
  more mark next old log new was source is h short d = record {
    times = suc h.times;
    mid = log;
    between = source;
    short = (mark, h.mid, h.between, h.short, h.last, short);
    last = d;
  }

  -- and then not
  pub stops : (mark : ℕ) (e : Refusal) (old log new : LastLog D) (was source is : S) → HasDrained is_honest state failures gives worker upto mark old log was source → mark < upto
      → FailsToDrain is_honest state failures gives worker e log new source is → FailsInDrains is_honest state failures gives worker upto e old new was is
  stops mark e old log new was source is h short f = record {
    times = suc h.times;
    mid = log;
    between = source;
    short = (mark, h.mid, h.between, h.short, h.last, short);
    fails = f;
  }
