-- A step of one operation: what it has to bring, and that the invariant stays: for all phases.
use Rattle.std.proofs.Common.{false, ◌≡◌, ◌≢◌, ℕ, zero, suc, ◌+◌, ◌<◌, ◌≤◌, ◌⊎◌, inl, inr, [], ◌∷◌, set, Some, sym, ap, subst, ◌∙◌, arith}
use Rattle.std.proofs.lemmas.Bool.{cases_eq}
use Rattle.std.specs.Prelude.{◌^◌}
use Rattle.mt_operation.specs.{declared.task.Task.Task, declared.scan.Scan.Scan, declared.operation.Operation.Operation, Operations.scan_of, Tasks.ask}
use Rattle.mt_operation.specs.{Phases.is_done, Tables.{Table, op_at as operation_at}}
use Rattle.mt_operation.proofs.Tables.{set_is, set_here, set_there}
use Rattle.mt_descent.specs.Pasts.{ExtendsPast}
use Rattle.mt_state.specs.{Views.{Core, shown, past_of}, KeptOperations.{HasScannedFor, KeepsScan, IsScanKept, IsKeptOf}}
use Rattle.mt_state.specs.{Invariant.{AreHolders, AreKeptBack, AreScansKept, StateInvariant, one_if_prepared, prepared_count, made_count}, Moves.{IsMove, IsTold}}
use Rattle.mt_state.specs.KeptBack.{ArenaFacts, IsKeptBack}
use Rattle.mt_state.proofs.{ScanKept.{scanned_for_stays, fresh_scan}, Moved.first_is, Shown.shown_table, Answered.made_set}
use Rattle.mt_state.proofs.{Stamps.stamped_now, Writing.{quotas_stay, written_stays}, Others.{kept_over, back_over}}
use Rattle.mt_arena.specs.{NodeView.NodeView, Arena.IsArena}
use Rattle.mt_state.proofs.Rely as rely

-- an operation with a place in the table counts once
counted_set : (table : Table) (o : ℕ) (before after : Operation) → operation_at table o ≡ Some before
    → prepared_count (set table o (Some after)) + one_if_prepared (Some before) ≡ prepared_count table + one_if_prepared (Some after)
counted_set [] o before after e = absurd (cc)
counted_set (x ∷ table) zero before after e = let is = ap one_if_prepared e in omega (arith, is)
counted_set (x ∷ table) (suc o) before after e = let rest = counted_set table o before after e in omega (arith, rest)

module _ (old new : Core) (o : ℕ) (before after : Operation) (h : StateInvariant old) (m : IsMove old new o before after) (t : IsTold old new o before after) (few : old.steps < 2 ^ 59)
    (were : ArenaFacts old.arena) (are : ArenaFacts new.arena) where
  arena : IsArena new.arena.nodes new.arena.trees
  arena = are.arena

  -- the operation of an id is that of the step, or was there before
  abbrev Was : ℕ → Operation → Type 0
  Was q op = ((q ≡ o) × (after ≡ op)) ⊎ ((q ≢ o) × (operation_at old.table q ≡ Some op))

  was : (q : ℕ) (op : Operation) → operation_at new.table q ≡ Some op → Was q op
  was q op is =
      let here = ap (λ (t : Table). operation_at t q) (sym m.table) ∙ is in
      elim (cases_eq q o) [
        | inl same ↦ inl (same, set_here old.table o after op (subst (λ k. operation_at (set old.table o (Some after)) k ≡ Some op) same here))
        | inr other ↦ inr (other, sym (set_there old.table o q (Some after) other) ∙ here)
      ]

  here_now : operation_at new.table o ≡ Some after
  here_now = ap (λ (t : Table). operation_at t o) m.table ∙ set_is old.table o after before m.there

  there_now : (q : ℕ) (op : Operation) → q ≢ o → operation_at old.table q ≡ Some op → operation_at new.table q ≡ Some op
  there_now q op other is = ap (λ (t : Table). operation_at t q) m.table ∙ set_there old.table o q (Some after) other ∙ is

  ops_stay : (q : ℕ) (op : Operation) → operation_at new.table q ≡ Some op → IsKeptOf new q op
  ops_stay q op is = elim (was q op is) [
    | inl (same, it) ↦ subst (λ (w : Operation). IsKeptOf new q w) it (subst (λ k. IsKeptOf new k after) (sym same) m.kept)
    | inr (other, there) ↦ kept_over old new o q were.arena arena m.leaves other op there (h.remembered q op there) (stamped_now new m.stamps arena) (omega (arith, m.number)) (h.ops q op there)
  ]

  -- what its scan has done: that was kept, or it hadn't begun; or the step brings it
  own_scan : is_done after.walk.phase ≡ false → KeepsScan new after
  own_scan unfinished = elim m.scan [
    | inr brings ↦ brings unfinished
    | inl (task, scan) ↦
        let s = h.scans o before m.there in
        let past : (first : ℕ) → ExtendsPast first (past_of old) (past_of new) =
        λ first. record { steps = m.leaves.past.steps; same = λ n from upto. m.leaves.past.same n (omega arith) upto } in
        let kept : HasScannedFor (ask before.task) (past_of new) after.walk.first (scan_of before.task before.scan) = elim (first_is before.walk.first (old.steps + 1)) [
          | inl (none, is) ↦ fresh_scan old before (h.ops o before m.there).always (s.fresh none) (past_of new) after.walk.first
          | inr (some, is) ↦ subst (λ first. HasScannedFor (ask before.task) (past_of new) first (scan_of before.task before.scan)) (sym (t.moves.first ∙ is))
              (scanned_for_stays (past_of old) (past_of new) before.walk.first (past before.walk.first) (ask before.task) (scan_of before.task before.scan) (s.walked some m.unfinished))
        ] in
        subst (λ (x : Task). HasScannedFor (ask x) (past_of new) after.walk.first (scan_of x after.scan)) (sym task)
        (subst (λ (g : Scan). HasScannedFor (ask before.task) (past_of new) after.walk.first (scan_of before.task g)) (sym scan) kept)
  ]

  begun_now : 0 < after.walk.first
  begun_now = elim (first_is before.walk.first (old.steps + 1)) [
    | inl (none, is) ↦ let first = t.moves.first in omega (arith, first, is)
    | inr (some, is) ↦ let first = t.moves.first in omega (arith, first, is, some)
  ]

  scans_stay : AreScansKept new
  scans_stay q op is = elim (was q op is) [
    | inl (same, it) ↦ subst (IsScanKept new) it (record { fresh = λ none. absurd (omega (arith, begun_now, none)); walked = λ begun unfinished. own_scan unfinished })
    | inr (other, there) ↦ rely.scan_stays old new o q arena (stamped_now new m.stamps arena) m.leaves other (omega (arith, m.number)) op (h.scans q op there)
  ]

  remembered_stays : AreKeptBack new
  remembered_stays q op is = elim (was q op is) [
    | inl (same, it) ↦ subst (λ (w : Operation). IsKeptBack new.arena q w) it (subst (λ k. IsKeptBack new.arena k after) (sym same) (m.remembered were are))
    | inr (other, there) ↦ back_over old new o q were.arena arena m.leaves other op there (h.remembered q op there) are (h.ops q op there)
  ]

  holders_stay : AreHolders new
  holders_stay k q within is = elim (cases_eq q o) [
    | inl same ↦ (after, ap (operation_at new.table) same ∙ here_now, m.held k within (is ∙ ap Some same))
    | inr other ↦
        let w = rely.holder_was o q k m.leaves.arena.mid new.arena m.leaves.arena.step within is other in
        let earlier = rely.held_was q k old.arena m.leaves.arena.mid m.leaves.arena.gives.given.gives w.0 w.1 in
        let f = h.holders k q earlier.0 (ap (λ (n : NodeView). n.holder) (sym earlier.1) ∙ w.1) in
        (f.0, there_now q f.0 other f.1, f.2)
  ]

  reserved_stays : new.tape.reserved ≡ prepared_count new.table
  reserved_stays =
      let counted = counted_set old.table o before after m.there in let is = ap prepared_count m.table in omega (arith, counted, is, m.reserved, h.reserved)

  answered_stays : new.answers + made_count (shown new).table ≤ new.steps
  answered_stays =
      let counted = made_set old.table o after in
      let is = ap (λ (t : Table). made_count (shown_table t)) m.table in
      omega (arith, counted, is, m.answers, m.number, h.answered)

  -- the invariant over all operations is kept by a step that brings this
  pub invariant_stays : StateInvariant new
  invariant_stays = record {
    tape = m.tape;
    stamps = m.stamps;
    versions = m.versions;
    holders = holders_stay;
    counts = m.counts;
    ops = ops_stay;
    scans = scans_stay;
    reserved = reserved_stays;
    answered = answered_stays;
    deleted = m.deleted;
    late = m.late;
    remembered = remembered_stays;
    few = omega (arith, m.number);
    quotas = quotas_stay old new o before after h m;
    written = written_stays old new o before after h m t;
  }
