-- That a step leads where the table of phases says, as it is shown, by what it makes of its operation inside: for all phases.
use Rattle.std.proofs.{Common.{◌≡◌, ◌≢◌, ℕ, ◌+◌, ◌⊎◌, inl, inr, List, [], ◌∷◌, Option, Some, None, refl, sym, ap, subst, ◌∙◌}, lemmas.Option.same_Some}
use Rattle.std.proofs.lemmas.Bool.{both_ways}
use Rattle.mt_rows.specs.{Rows.Bytes, Accounts.Accounts}
use Rattle.mt_tape.specs.Tapes.{Kept}
use Rattle.mt_arena.specs.Arena.{ArenaView}
use Rattle.mt_operation.specs.{declared.phase.Phase.Phase, declared.walk.Walk.Walk, declared.outcome.Outcome.Outcome, declared.operation.Operation.Operation}
use Rattle.mt_operation.specs.{Tasks.ask, declared.removal.Removal.Removal, declared.splits.Halves.Halves}
use Rattle.mt_operation.specs.{Operations.{OperationView, ScanView, SplitsView, no_removal, view_of, splits_of, scan_of}, Tables.{Table, op_at as operation_at}}
use Rattle.mt_operation.specs.Phases.{row}
use Rattle.mt_held.specs.Moves.{walk_done}
use Rattle.mt_remove.specs.Unlock.{EmptiesLayer}
use Rattle.mt_state.specs.{Views.{Core, shown}, Phases.{LeadsTo, GoesFromUnlock, ReturnsBy, GoesBy, Leads, ScanStep, StaysScanned, key_sought}}
use Rattle.mt_state.specs.Invariant.{StateInvariant}
use Rattle.mt_state.proofs.{ScanNeeds.{key_sought_is, stays_scanned}, Shown.shown_there}
use Rattle.mt_core.proofs.Following.{IsOver, made}

-- what a step makes of what an operation has scanned that stays as it was, and what one makes that leaves this of it
abbrev pub scan_step : Operation → ScanView → ScanStep
scan_step op is = record { command = ask op.task; was = scan_of op.task op.scan; is = is }

abbrev pub no_step : Operation → ScanStep
no_step op = scan_step op (scan_of op.task op.scan)

module _ (c : Core) (o : ℕ) (h : StateInvariant c) (op : Operation) (there : operation_at c.table o ≡ Some op) (p : Phase) (at_p : op.walk.phase ≡ p) where
  -- a walk to which the table leads is shown so, with what the step makes of what it has scanned
  pub leads_scan : (new : Core) (after : Operation) → operation_at new.table o ≡ Some after → (w : Walk)
      → LeadsTo p c.arena new.arena o (c.steps + 1) op.task.key op.outcome (splits_of op.splits) op.removal (scan_step op (scan_of after.task after.scan)) op.walk w
      → StaysScanned (row p).kind (scan_of op.task op.scan) (scan_of after.task after.scan)
      → after.walk ≡ record w { first = after.walk.first } → Leads (shown c) (shown new) o
  leads_scan new after came w goes stays is before now at_before at_now =
      let key = key_sought_is c op (h.ops o op there).always in
      let g = scan_step op (scan_of after.task after.scan) in
      let by : GoesBy c.arena new.arena o (c.steps + 1) (view_of op) (view_of after) = record {
        walk = w;
        leads =
            subst (λ (q : Phase). LeadsTo q c.arena new.arena o (c.steps + 1) (key_sought (view_of op)) op.outcome (splits_of op.splits) op.removal g op.walk w) (sym at_p)
            (subst (λ (k : Bytes). LeadsTo p c.arena new.arena o (c.steps + 1) k op.outcome (splits_of op.splits) op.removal g op.walk w) key goes);
        is = is;
        stays = subst (λ (q : Phase). StaysScanned (row q).kind (scan_of op.task op.scan) (scan_of after.task after.scan)) (sym at_p) stays;
      } in
      subst (λ (x : OperationView). GoesBy c.arena new.arena o (c.steps + 1) x now) (same_Some (view_of op) before (sym (shown_there c.table o op there) ∙ at_before))
      (subst (λ (y : OperationView). GoesBy c.arena new.arena o (c.steps + 1) (view_of op) y) (same_Some (view_of after) now (sym (shown_there new.table o after came) ∙ at_now)) by)

  -- by the table that is left, and in a state that is shown so
  pub leads_scanned : (now : Core) → c ≡ now → (arena : ArenaView) (tape : Kept) (accounts : Accounts) (table : Table) (after : Operation)
      → IsOver c.table table o after → (w : Walk)
      → LeadsTo p c.arena arena o (c.steps + 1) op.task.key op.outcome (splits_of op.splits) op.removal (scan_step op (scan_of after.task after.scan)) op.walk w
      → StaysScanned (row p).kind (scan_of op.task op.scan) (scan_of after.task after.scan)
      → after.walk ≡ record w { first = after.walk.first } → Leads (shown now) (shown (made c arena tape accounts table)) o
  leads_scanned now is arena tape accounts table after over w goes stays same =
      subst (λ (v : Core). Leads (shown v) (shown (made c arena tape accounts table)) o) is (leads_scan (made c arena tape accounts table) after over.there w goes stays same)

  -- and one that leaves it as it was
  pub leads_over : (now : Core) → c ≡ now → (arena : ArenaView) (tape : Kept) (accounts : Accounts) (table : Table) (after : Operation)
      → IsOver c.table table o after → (w : Walk)
      → LeadsTo p c.arena arena o (c.steps + 1) op.task.key op.outcome (splits_of op.splits) op.removal (no_step op) op.walk w
      → after.walk ≡ record w { first = after.walk.first } → scan_of after.task after.scan ≡ scan_of op.task op.scan
      → Leads (shown now) (shown (made c arena tape accounts table)) o
  leads_over now is arena tape accounts table after over w goes same scan =
      leads_scanned now is arena tape accounts table after over w
      (subst (λ (g : ScanView). LeadsTo p c.arena arena o (c.steps + 1) op.task.key op.outcome (splits_of op.splits) op.removal (scan_step op g) op.walk w) (sym scan) goes)
      (stays_scanned (row p).kind (scan_of op.task op.scan) (scan_of after.task after.scan) scan) same

-- from Unlock the operation is done, where it was told something and has split, or has emptied no node
pub done_from : (told : Option Outcome) (v : ArenaView) (s : SplitsView) (r : Removal) (w x : Walk) → told ≢ None → (s.halves ≢ []) ⊎ (r ≡ no_removal)
    → x ≡ walk_done w → GoesFromUnlock told v s r w x
done_from None v s r w x some splits goes = absurd (some refl)
done_from (Some told) v s r w x some splits goes = by s.halves splits
  where
    by : (halves : List Halves) → (halves ≢ []) ⊎ (r ≡ no_removal) → ReturnsBy halves v r w x
    by [] either = record { cleans = λ empties. absurd (unemptied empties); ends = λ keeps. goes }
      where
        unemptied : EmptiesLayer v w r → ⊥
        unemptied empties = elim either [
          | inl split ↦ split refl
          | inr none ↦ both_ways _ (ap (λ (x : Removal). x.emptied) none) empties.emptied
        ]
    by (half ∷ halves) either = goes
