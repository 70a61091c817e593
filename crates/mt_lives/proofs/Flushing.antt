-- What a flush makes of a store that serves a life.
use Rattle.std.proofs.Common.{◌≡◌, ◌≢◌, ◌⊎◌, ℕ, zero, suc, ◌+◌, ◌<◌, ◌≤◌, List, [], ◌∷◌, length, Option, Some, None, refl, sym, ap, subst, ◌∙◌, arith, inl, inr, ⊎_elim}
use Rattle.std.proofs.lemmas.Option.{same_Some}
use Rattle.std.specs.{Prelude.{slice_get, slice_index_or}, List.filter}
use Rattle.mt_rows.specs.{Accounts.Accounts, declared.record.Batch.Batch, declared.refusal.Refusal.Refusal}
use Rattle.mt_batches.{specs.Batches.IsBounded, proofs.Climbing.goes_on}
use Rattle.mt_disk.specs.{declared.mem.MemDisk.MemDisk, Mem.mem_state}
use Rattle.mt_log.specs.Contents.{mark_of}
use Rattle.mt_state.specs.{Views.StateView, Histories.Names}
use Rattle.mt_core.specs.Drains.{Drains}
use Rattle.mt_drains.specs.Drains.{records_between}
use Rattle.mt_crashes.{specs.{Histories.changes_of, Stores.{Store, LogNow, Reaches, is_between}}, proofs.Members.no_some}
use Rattle.mt_store_logs.specs.{declared.last_log.LastLog.LastLog, declared.store_log.StoreLog.StoreLog, Places.{last_log_of, slot_of, mark_in, OnLast}}
use Rattle.mt_store_logs.specs.Waits.{AppendsKept, FailsToAppend, AppendsNew, FailsToAppendNew, with_kept}
use Rattle.mt_store_logs.specs.{Shows.{WaitsIn, drained_upto, IsInDoubt}, Ends.keeping}
use Rattle.mt_lives.specs.{Lives.{Life, IsMemoryOrDevice}, Holds.{HoldsChanges, HoldsKept, IsLogAt, Serves}}
use Rattle.mt_lives.proofs.{Comes.{set_there, with_log, GoesTo, is_in, is_in_doubt}, Tapes.drained_changes}
pub use Rattle.mt_lives.proofs.TurnLogs.{keeps_rules, failures_of}
use Rattle.mt_lives.proofs.TurnLogs.{IsAt, waiting, open_mark, appended_in, not_appended_in, drained_in}
use Rattle.mt_rows.specs.declared.refusal.Refusal.TheVariants as refusals
use Rattle.mt_lives.specs.Turning.{Part}

-- a log that rests reaches its mark
pub rests_at_mark : (now : LogNow) (n : ℕ) → now.doubt ≡ None → mark_of now.had ≡ n → Reaches n now
rests_at_mark now n none mark = λ front left. ⊎_elim
    (λ same. omega (arith, ap mark_of same, mark))
    (λ more. absurd (no_some more.0 (sym none ∙ more.1)))
    left

-- what a drain gave holds the worker's changes
module _ (accounts : Accounts) (life : Life) (s : Store) (v new : StateView) (names : Names) (h : Serves accounts life s v names) (worker : ℕ) (batch : Batch)
    (d : Drains v new worker batch) where
  pub holds_drained : v.tape.floor ≤ batch.from → HoldsChanges s worker batch
  holds_drained le =
      let made = d.next.made in
      record {
        made = omega (arith, made, h.steps);
        records =
            d.next.records
            ∙ ap (λ n. records_between worker n batch.to v.tape.entries) (sym d.next.begins)
            ∙ drained_changes worker batch.from batch.to v.tape.floor h.before v.tape.entries h.ended le
            ∙ ap (λ ps. changes_of (filter (is_between worker batch.from batch.to) ps)) (sym h.holds);
      }

-- ---- places

got : (xs : List ℕ) (k x d : ℕ) → slice_get xs k ≡ Some x → slice_index_or xs k d ≡ x
got [] k x d e = absurd (no_some x e)
got (y ∷ xs) zero x d e = same_Some y x e
got (y ∷ xs) (suc k) x d e = got xs k x d e

pub within : {X : Type 0} (xs : List X) (k : ℕ) (x : X) → slice_get xs k ≡ Some x → k < length xs
within [] k x e = absurd (no_some x e)
within (y ∷ xs) zero x e = omega arith
within (y ∷ xs) (suc k) x e = omega (arith, within xs k x e)

-- ---- refusals

-- a refusal of a log is of memory or of the device
pub of_log : (e : Refusal) (old new : LastLog MemDisk) → FailsToAppend keeps_rules mem_state failures_of e old new → ((mark : ℕ) → e ≢ refusals.WrongTurn mark) → IsMemoryOrDevice e
of_log refusals.Device old new f turn = inr refl
of_log refusals.Memory old new f turn = inl refl
of_log (refusals.WrongTurn mark) old new f turn = absurd (turn mark refl)
of_log e old new f turn = absurd f

-- ---- one log

-- a batch in doubt changes nothing of how far the worker was drained
pub doubt_drained : (kept now_kept : Option Batch) (now next : LogNow) → IsInDoubt kept now next → now_kept ≡ kept → drained_upto next now_kept ≡ drained_upto now kept
doubt_drained None now_kept now next same is = ap (drained_upto next) is ∙ ap (λ (l : LogNow). mark_of l.had) same
doubt_drained (Some b) now_kept now next doubt is = ap (drained_upto next) is

-- a worker's log has come to stand so, and its state gave it so much
pub record Moves (from : ℕ) (part : Part) (s : Store) (given : List ℕ) (worker : ℕ) (new : StoreLog MemDisk) : Type 0 where
  pub next : LogNow
  pub goes : GoesTo worker next s
  pub at : IsLogAt from part (with_log worker next s) given worker next new

-- it stands in its turn
pub stands_at : (from : ℕ) (part : Part) (s : Store) (given : List ℕ) (worker : ℕ) (now : LogNow) (log : StoreLog MemDisk) → IsLogAt from part s given worker now log → IsAt from part now log
stands_at from part s given worker now log at = record { files = at.files; stands = at.stands; begins = at.begins }

pub as_log_at : (from : ℕ) (part : Part) (s : Store) (given : List ℕ) (worker : ℕ) (now : LogNow) (log : StoreLog MemDisk) → IsAt from part now log
    → slice_get given worker ≡ Some (drained_upto now log.kept) → HoldsKept s worker log.kept → IsLogAt from part s given worker now log
as_log_at from part s given worker now log at given_so kept = record { files = at.files; stands = at.stands; begins = at.begins; given_so = given_so; kept = kept }

-- a batch that is new to a log waits for it first
waits_first : (batch : Batch) (log last : StoreLog MemDisk) → OnLast (AppendsNew keeps_rules mem_state failures_of batch) log last
    → OnLast (AppendsKept keeps_rules mem_state failures_of) (keeping batch log) last
waits_first batch log last a = record { does = a.does.appends; rest = a.rest; doubts = a.doubts; oldest = a.oldest }

module _ (from : ℕ) (part : Part) (accounts : Accounts) (life : Life) (s : Store) (v : StateView) (names : Names) (h : Serves accounts life s v names) (worker : ℕ) (now : LogNow) (log : StoreLog MemDisk)
    (there : slice_get s.logs worker ≡ Some now) (at : IsLogAt from part s v.logs worker now log) where
  stands : IsAt from part now log
  stands = stands_at from part s v.logs worker now log at

  -- the log was given what the state says
  given_so : (n : ℕ) → drained_upto now log.kept ≡ n → slice_get v.logs worker ≡ Some n
  given_so n e = at.given_so ∙ ap Some e

  -- the batch that waited is in the log
  pub kept_moves : (mid : StoreLog MemDisk) → OnLast (AppendsKept keeps_rules mem_state failures_of) log mid → Moves from part s v.logs worker mid
  kept_moves mid a =
      let r = appended_in from part now log mid stands a in
      record {
        next = r.0;
        goes = is_in worker s now r.0 log.kept h.serving there at.kept r.2;
        at = as_log_at from part (with_log worker r.0 s) v.logs worker r.0 mid r.1
            (given_so (drained_upto r.0 mid.kept) (sym r.3))
            (subst (HoldsKept (with_log worker r.0 s) worker) (sym a.does.none) tt);
      }

  holds_same : (next : LogNow) (kept : Option Batch) → HoldsKept s worker kept → HoldsKept (with_log worker next s) worker kept
  holds_same next None h = h
  holds_same next (Some b) h = record { made = h.made; records = h.records }

  -- it still waits
  pub waits_moves : (e : Refusal) (new : StoreLog MemDisk) → OnLast (FailsToAppend keeps_rules mem_state failures_of e) log new
      → Moves from part s v.logs worker new × IsMemoryOrDevice e
  waits_moves e new f =
      let r = not_appended_in from part now log new stands e f in (
        record {
          next = r.0;
          goes = is_in_doubt worker s now r.0 log.kept h.serving there at.kept r.2;
          at = as_log_at from part (with_log worker r.0 s) v.logs worker r.0 new r.1
              (given_so (drained_upto r.0 new.kept) (sym (doubt_drained log.kept new.kept now r.0 r.2 r.3)))
              (holds_same r.0 new.kept (subst (HoldsKept s worker) (sym r.3) at.kept));
        },
        of_log e (last_log_of log) (last_log_of new) f.does r.4,
      )

  -- the worker was drained, while no batch waited
  module _ (none : log.kept ≡ None) (new : StateView) (batch : Batch) (d : Drains v new worker batch) (bounded : IsBounded batch) where
    from_so : batch.from ≡ drained_upto now log.kept
    from_so = d.next.begins ∙ got v.logs worker (drained_upto now log.kept) 0 at.given_so

    from_floor : v.tape.floor ≤ batch.from
    from_floor =
        let reached = h.right.tape.logs.reached worker 0 (within v.logs worker (drained_upto now log.kept) at.given_so) in
        omega (arith, reached, d.next.begins)

    -- it gave all of its changes, or 4,096
    pub full_or_all : (batch.to ≤ v.steps) × ((batch.to ≡ v.steps) ⊎ (life.base + 4096 ≤ batch.to))
    full_or_all = (
      d.next.made,
      ⊎_elim inl (λ full. let on = goes_on batch bounded.in_order in let low = from_floor in inr (omega (arith, on, full, low, h.floor))) d.next.ends,
    )

    holds : (next : LogNow) → HoldsChanges (with_log worker next s) worker batch
    holds next = let k = holds_drained accounts life s v new names h worker batch d from_floor in record { made = k.made; records = k.records }

    now_given : slice_get new.logs worker ≡ Some batch.to
    now_given =
        ap (λ (w : StateView). slice_get w.logs worker) d.stands
        ∙ set_there v.logs worker (drained_upto now log.kept) batch.to at.given_so

    stands_drained : IsAt from part now (keeping batch log)
    stands_drained = drained_in from part now log batch stands none bounded.in_order from_so

    holds_here : HoldsChanges s worker batch
    holds_here = holds_drained accounts life s v new names h worker batch d from_floor

    -- its batch is in the log, which goes up to its end
    pub flushed : (last : StoreLog MemDisk) → OnLast (AppendsNew keeps_rules mem_state failures_of batch) log last
        → (m : Moves from part s new.logs worker last) × Reaches batch.to m.next
    flushed last a =
        let b = waits_first batch log last a in
        let r = appended_in from part now (keeping batch log) last stands_drained b in
        let at_end : mark_of r.0.had ≡ batch.to = ap (drained_upto r.0) (sym b.does.none) ∙ r.3 in
        let rests_so : r.0.doubt ≡ None = subst (WaitsIn r.0) b.does.none (waiting from part r.0 last r.1) in (
          record {
            next = r.0;
            goes = is_in worker s now r.0 (Some batch) h.serving there holds_here r.2;
            at = as_log_at from part (with_log worker r.0 s) new.logs worker r.0 last r.1 (now_given ∙ ap Some (sym r.3))
                (subst (HoldsKept (with_log worker r.0 s) worker) (sym b.does.none) tt);
          },
          rests_at_mark r.0 batch.to rests_so at_end,
        )

    -- it is never out of turn
    never_elsewhere : (mark : ℕ) → mark_in (slot_of log) ≡ Some mark → batch.from ≢ mark → ⊥
    never_elsewhere mark is elsewhere = elsewhere (from_so ∙ ap (drained_upto now) none ∙ sym (open_mark from part now log mark stands is).1)

    still_waits : (e : Refusal) (last : StoreLog MemDisk) → OnLast (FailsToAppend keeps_rules mem_state failures_of e) (keeping batch log) last
        → Moves from part s new.logs worker last × IsMemoryOrDevice e
    still_waits e last f =
        let r = not_appended_in from part now (keeping batch log) last stands_drained e f in (
          record {
            next = r.0;
            goes = is_in_doubt worker s now r.0 (Some batch) h.serving there holds_here r.2;
            at = as_log_at from part (with_log worker r.0 s) new.logs worker r.0 last r.1
                (now_given ∙ ap Some (sym (doubt_drained (Some batch) last.kept now r.0 r.2 r.3)))
                (subst (HoldsKept (with_log worker r.0 s) worker) (sym r.3) (holds r.0));
          },
          of_log e (with_kept batch (last_log_of log)) (last_log_of last) f.does r.4,
        )

    -- its batch waits
    pub keeps_moves : (last : StoreLog MemDisk) (e : Refusal) → OnLast (FailsToAppendNew keeps_rules mem_state failures_of e batch) log last
        → Moves from part s new.logs worker last × IsMemoryOrDevice e
    keeps_moves last e f = by f.does
      where
        by : FailsToAppendNew keeps_rules mem_state failures_of e batch (last_log_of log) (last_log_of last) → Moves from part s new.logs worker last × IsMemoryOrDevice e
        by (inl fails) = still_waits e last (record { does = fails; rest = f.rest; doubts = f.doubts; oldest = f.oldest })
        by (inr out) = absurd (never_elsewhere out.mark out.open_up_to out.elsewhere)
