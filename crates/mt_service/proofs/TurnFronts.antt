-- Whatever turn a log had, what the clerk of the logs had seen before it is a beginning of what it has seen then.
use Rattle.std.proofs.{Common.{◌≡◌, inl, inr, ⊎_elim, ℕ, Bool, [], Ok, Err, sym, subst}, lemmas.List.append-nil}
use mathlib.Core.List.{IsPrefix}
use Rattle.mt_rows.specs.declared.refusal.Refusal.{Refusal}
use Rattle.mt_disk.specs.Disk.{DiskState}
use Rattle.mt_settle.specs.Turns.{Turn, BroughtUp, BegunNext, GivenUp, Told}
use Rattle.mt_book.specs.{Happens.{Adds, Acted}, Periods.look_period, declared.desks.Look.Look}
use Rattle.mt_store_logs.specs.{declared.store_log.StoreLog.StoreLog, Places.worker_of, LogTurns.{BringsUp, FailsToBringUp}, Turns.FailsToFlushLog}
use Rattle.mt_stored.specs.{Begins.{BringsUpAndBegins, FailsToBringUpAndBegin}, Shared.{Seen, gives_batch, UptoSteps, DoesShared}}
use Rattle.mt_service.proofs.SettledNumbers.{turn_front, down_front as not_up_front}

same_front : (old new : Seen) → new ≡ old → IsPrefix old.log new.log
same_front old new same = subst (λ (m : Seen). IsPrefix old.log m.log) (sym same) ([], append-nil old.log)

module _ {D : Type 0} (is_honest : D → Bool) (state : D → DiskState) (failures : D → ℕ) (was_refused : D → Bool) where
  -- so far the history is that of a log which was brought up, whatever was begun after it
  up_front : (log mark : ℕ) (old new : Seen) (u : UptoSteps (λ upto. BringsUp is_honest state failures gives_batch upto mark) log old new) → IsPrefix old.log new.log
  up_front log mark old new u = turn_front is_honest state failures was_refused log (Ok mark) old new u

  down_front : (log : ℕ) (refusal : Refusal) (old new : Seen) (u : UptoSteps (λ upto. FailsToBringUp is_honest state failures gives_batch upto refusal) log old new) → IsPrefix old.log new.log
  down_front log refusal old new u = not_up_front is_honest state failures was_refused log refusal old new u

  begins_front : (log generation mark : ℕ) (old new : Seen) → UptoSteps (λ upto. BringsUpAndBegins is_honest state failures gives_batch upto generation mark) log old new → IsPrefix old.log new.log
  begins_front log generation mark old new u =
      let t = u.turned in
      elim (t.does.begins) [
        | inl (earlier, both) ↦
            up_front log mark old new (record {
              look = u.look;
              seen = u.seen;
              looked = u.looked;
              turned = record { before = t.before; after = both.mid; whose = t.whose; does = record { mid = t.does.mid; opens = t.does.opens; flushes = both.flushes } };
            })
        | inr (there, flushes) ↦
            up_front log mark old new (record {
              look = u.look;
              seen = u.seen;
              looked = u.looked;
              turned = record { before = t.before; after = t.after; whose = t.whose; does = record { mid = t.does.mid; opens = t.does.opens; flushes = flushes } };
            })
      ]

  fails_front : (log generation : ℕ) (refusal : Refusal) (old new : Seen) (u : UptoSteps (λ upto. FailsToBringUpAndBegin is_honest state failures gives_batch upto generation refusal) log old new)
      → IsPrefix old.log new.log
  fails_front log generation refusal old new u =
      let t = u.turned in
      elim (t.does) [
        | inl shut ↦
            down_front log refusal old new (record {
              look = u.look;
              seen = u.seen;
              looked = u.looked;
              turned = record { before = t.before; after = t.after; whose = t.whose; does = inl shut };
            })
        | inr o ↦
            let down : FailsToFlushLog is_honest state failures gives_batch u.look.steps refusal o.mid t.after u.seen new → IsPrefix old.log new.log =
            λ fails.
            down_front log refusal old new (record {
              look = u.look;
              seen = u.seen;
              looked = u.looked;
              turned = record { before = t.before; after = t.after; whose = t.whose; does = inr (record { mid = o.mid; opens = o.opens; fails = fails }) };
            }) in
            elim (o.fails) [
              | inl (earlier, inl fails) ↦ down fails
              | inl (earlier, inr only) ↦
                  up_front log only.mark old new (record {
                    look = u.look;
                    seen = u.seen;
                    looked = u.looked;
                    turned = record { before = t.before; after = only.mid; whose = t.whose; does = record { mid = o.mid; opens = o.opens; flushes = only.flushes } };
                  })
              | inr (there, fails) ↦ down fails
            ]
      ]

  -- so it is of a log that is at this generation then, or at another one
  goes_front : (log generation mark : ℕ) (old new : Seen) (look : Look) (seen : Seen) → Adds (Acted (look_period look)) old seen → (before after : StoreLog D) → worker_of before ≡ log
      → BringsUpAndBegins is_honest state failures gives_batch look.steps generation mark before after seen new → IsPrefix old.log new.log
  goes_front log generation mark old new look seen looked before after whose does =
      begins_front log generation mark old new (record { look = look; seen = seen; looked = looked; turned = record { before = before; after = after; whose = whose; does = does } })

  pub any_front : (old : Seen) (turn : Turn) (new : Seen) → DoesShared is_honest state failures was_refused old turn new → IsPrefix old.log new.log
  any_front old (BroughtUp log told) new d = turn_front is_honest state failures was_refused log told old new d
  any_front old (BegunNext log generation (Ok mark)) new u =
      goes_front log generation mark old new u.look u.seen u.looked u.turned.before u.turned.after u.turned.whose u.turned.does.0
  any_front old (BegunNext log generation (Err refusal)) new (inl (elsewhere, same)) = same_front old new same
  any_front old (BegunNext log generation (Err refusal)) new (inr u) =
      let t = u.turned in
      ⊎_elim
      (λ failed.
      fails_front log generation failed.refusal old new (record {
        look = u.look;
        seen = u.seen;
        looked = u.looked;
        turned = record { before = t.before; after = t.after; whose = t.whose; does = failed.fails };
      }))
      (λ other. goes_front log generation other.1.0 old new u.look u.seen u.looked t.before t.after t.whose other.1.1)
      t.does
  any_front old (GivenUp log (Ok u)) new d = same_front old new d.1
  any_front old (GivenUp log (Err refusal)) new d = same_front old new d.1
  any_front old (Told log (Ok told)) new d = same_front old new d.1
  any_front old (Told log (Err refusal)) new d = same_front old new d.1
