-- What the calls of a scan's phases require, from the invariant; and that what a scan shows may be shown.
use Rattle.std.proofs.Common.{◌≡◌, ◌<◌, ℕ, Bool, true, false, ◌&&◌, T, List, [], ◌∷◌, map, Some, None, refl, sym, ap, subst, ◌∙◌, cond}
use Rattle.std.specs.{List.AllByRecursion, List.Sorted.IsStrictlySortedBy, Ordering.{nat_cmp, is_lt}, declared.cmp.Ordering.TheVariants.Less}
use Rattle.std.specs.{declared.cmp.Ordering.Ordering, Cmp.Lexicographic.slice_cmp, FinMap.Entries.{below_all, is_sorted}}
use Rattle.mt_rows.specs.{declared.command.Command.Command, declared.command.Command.TheVariants.{Get, Put, PutIf, Remove, Scan}, Rows.Bytes, Stamps.Stamped}
use Rattle.mt_rows.specs.{Commands.{HasColumns, key_of}, Maps.is_scan}
use Rattle.mt_operation.specs.{declared.phase.Phase.Phase, declared.phase.Phase.TheVariants.{Enter, Snap, Check, Hop}, declared.operation.Operation.Operation}
use Rattle.mt_operation.specs.{Tasks.ask, Operations.{ScanView, scan_of, view_of}, Phases.{is_done, IsOfKind, Kind}, Tables.{op_at as operation_at}}
use Rattle.mt_descent.specs.KeptWalks.{IsAtBorder, KeptAt}
use Rattle.mt_scan.specs.{Checks.MayCheck, Hops.{IsAtCheck, KeptHop}}
use Rattle.mt_state.specs.{Views.{Core, past_of}, KeptOperations.{HasScannedFor, IsOpenOperation, IsOnItsWay, IsChecking, IsHopping, IsKeptAt}}
use Rattle.mt_state.specs.{Invariant.StateInvariant, Phases.{key_sought, StaysScanned}}
use Rattle.mt_state.proofs.{Lawful.aim_scan, Reading.key_of_owner}
use Rattle.mt_slices.specs.Keys.{stored_key}
use Rattle.mt_operation.specs.declared.walk.Aim.TheVariants as aims
use Rattle.mt_operation.specs.Phases as kinds

module _ (c : Core) (o : ℕ) (h : StateInvariant c) (op : Operation) (there : operation_at c.table o ≡ Some op) where
  always : IsOpenOperation c op
  always = (h.ops o op there).always

  -- it stands at a border node
  pub snap_kept : op.walk.phase ≡ Snap → IsAtBorder c.arena op.task.key op.walk
  snap_kept at_snap =
      let way : IsOnItsWay c op = subst (λ (p : Phase). IsKeptAt p c o op) at_snap (h.ops o op there).kept in
      subst (λ (p : Phase). KeptAt p c.arena (past_of c) op.task.key None op.walk) at_snap way.kept

  -- it has seen the pairs there
  pub check_kept : op.walk.phase ≡ Check → IsAtCheck c.arena op.task.key op.walk op.scan.stop
  check_kept at_check = let k : IsChecking c op = subst (λ (p : Phase). IsKeptAt p c o op) at_check (h.ops o op there).kept in k.kept

  -- and is to go on behind them
  pub hop_kept : op.walk.phase ≡ Hop → KeptHop c.arena op.task.key op.walk op.scan.stop
  hop_kept at_hop = let k : IsHopping c op = subst (λ (p : Phase). IsKeptAt p c o op) at_hop (h.ops o op there).kept in k.kept

  -- its task is a scan, which has fewer pairs than it was asked for
  pub may_check : op.walk.phase ≡ Check → MayCheck op.task op.scan.collected.items
  may_check at_check =
      let begun : 0 < op.walk.first = always.begun (λ enters. absurd (let no : Check ≡ Enter = sym at_check ∙ enters in cc)) in
      let scanning : op.walk.aim ≡ aims.Scan = subst (λ (p : Phase). IsOfKind p op.walk.aim) at_check always.kind in
      by (ask op.task) refl (aim_scan (ask op.task) (sym always.aim ∙ scanning)) always.columns ((h.scans o op there).walked begun (ap is_done at_check))
    where
      by : (command : Command) → ask op.task ≡ command → is_scan command ≡ true → HasColumns command → HasScannedFor command (past_of c) op.walk.first (scan_of op.task op.scan)
          → MayCheck op.task op.scan.collected.items
      by (Scan from after count columns) is scans indexes has =
          record { count = count; columns = columns; asks = record { from = from; after = after; is = is }; indexes = indexes; few = has.few }
      by (Get key columns) is scans indexes has = absurd (cc)
      by (Put key change) is scans indexes has = absurd (cc)
      by (PutIf key stamp change) is scans indexes has = absurd (cc)
      by (Remove key) is scans indexes has = absurd (cc)

-- both of two tests hold
both : (a b : Bool) → T a → T b → T (a && b)
both true b p q = q
both false b p q = p

-- a key below others stands below their pairs
below : (key : Bytes) (ps : List (Bytes × Stamped)) → AllByRecursion (λ (y : Bytes). slice_cmp nat_cmp key y ≡ Less) (map (λ (p : Bytes × Stamped). p.0) ps)
    → T (below_all (slice_cmp nat_cmp) key ps)
below key [] h = tt
below key (p ∷ ps) h =
    both (is_lt (slice_cmp nat_cmp key p.0)) (below_all (slice_cmp nat_cmp) key ps) (subst (λ (o : Ordering). T (is_lt o)) (sym h.0) tt) (below key ps h.1)

-- pairs whose keys rise strictly are sorted by them
pub sorted_pairs : (ps : List (Bytes × Stamped)) → IsStrictlySortedBy (slice_cmp nat_cmp) (map (λ (p : Bytes × Stamped). p.0) ps)
    → T (is_sorted (slice_cmp nat_cmp) ps)
unfolding IsStrictlySortedBy
sorted_pairs [] h = tt
sorted_pairs (p ∷ ps) h = both (below_all (slice_cmp nat_cmp) p.0 ps) (is_sorted (slice_cmp nat_cmp) ps) (below p.0 ps h.0) (sorted_pairs ps h.1)

-- the key that an operation looks for is that of its task: a scan's is the fence that it has reached
pub key_sought_is : (c : Core) (op : Operation) → IsOpenOperation c op → op.task.key ≡ key_sought (view_of op)
key_sought_is c op k = by (is_scan (ask op.task)) refl
  where
    by : (b : Bool) → is_scan (ask op.task) ≡ b → op.task.key ≡ cond b op.task.key (stored_key op.task.tenant (key_of (ask op.task)))
    by true e = refl
    by false e = key_of_owner op.task.key op.task.tenant (key_of (ask op.task)) k.stored (k.owner e)

-- what is scanned stands where it is the same
pub stays_scanned : (of : Kind) (was is : ScanView) → is ≡ was → StaysScanned of was is
stays_scanned kinds.Scans was is same = tt
stays_scanned kinds.Descends was is same = same
stays_scanned kinds.Reads was is same = same
stays_scanned kinds.Locks was is same = same
stays_scanned kinds.Judges was is same = same
stays_scanned kinds.Writes was is same = same
stays_scanned kinds.Begins was is same = same
stays_scanned kinds.Splits was is same = same
stays_scanned kinds.Climbs was is same = same
stays_scanned kinds.Layers was is same = same
stays_scanned kinds.Drops was is same = same
stays_scanned kinds.Unlinks was is same = same
stays_scanned kinds.Cleans was is same = same
stays_scanned kinds.Returns was is same = same
stays_scanned kinds.Ends was is same = same
