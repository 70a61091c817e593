-- Where the account begins of an operation that nobody disturbs any more, at whatever phase it stands: for `Inner::run_alone`.
use Rattle.std.proofs.Common.{◌≡◌, ◌≢◌, ℕ, ◌+◌, ◌≤◌, inr, List, [], ◌∷◌, Bool, true, false, Option, None, Some, refl, sym, ap, subst, ◌∙◌, arith}
use Rattle.std.proofs.{lemmas.Option.same_Some, lemmas.Bool.both_ways}
use Rattle.mt_arena.specs.{Arena.{IsArena, live_count, ArenaView}, Accesses.at, Forests.{layer_of, tree_at}}
use Rattle.mt_arena.proofs.{Heights.any_below_live, Elsewhere.layer_is}
use Rattle.mt_operation.specs.declared.removal.Removal.{Removal}
use Rattle.mt_operation.specs.{Phases.{Kind, FitsAim, ends, row, IsClimbKind, IsRemovalKind, IsRemovalPhase, IsOfKind, is_done}, declared.splits.Splits.Splits}
use Rattle.mt_operation.specs.{declared.phase.Phase.Phase, declared.phase.Phase.TheVariants.{Reparent, Snap, Check, Hop}, declared.splits.Halves.Halves}
use Rattle.mt_operation.specs.{declared.operation.Operation.Operation, Operations.OperationView, Tasks.{ask, aim_of}, declared.outcome.Outcome.Outcome}
use Rattle.mt_operation.specs.{declared.walk.Walk.Walk, declared.scan.Stop.Stop}
use Rattle.mt_operation.proofs.Phases.{by_removal}
use Rattle.mt_core.proofs.{WalkBounds.{IsWalkKind, none_walked}, Climbing.climbed, Ahead.{nodes_most, trees_most}, ScanNears.{scan_aim, rounds_less}}
use Rattle.mt_core.proofs.{RemovalNears.shallow_layer, Astray.behind_most}
use Rattle.mt_core.specs.Budgets.{WalksBy, budget_of, AreBelow}
use Rattle.mt_core.specs.{Points.{round_budget, MadeBy, RemovedBy, RoundsBy, untold, IsComing, HasRounds, IsSoFar, IsUnhindered}, Alone.IsUndisturbed}
use Rattle.mt_core.specs.ScanPoints.{ScansBy, live_trees, trees_ahead, round_of}
use Rattle.mt_state.specs.{KeptOperations.{IsKeptFor, IsBound, IsKeptOf, IsOpenOperation, IsReturning, MayUnlock, MayUnlockUnsplit}, Views.{Core, shown}}
use Rattle.mt_state.specs.Invariant.{StateInvariant}
use Rattle.mt_state.proofs.{Needs.writing_put, Lawful.{aim_scan, scan_no_remove}, Bound.put_no_remove, Shown.inside_of}
use Rattle.mt_remove.specs.{KeptRemovals.{KeptRemoval, IsCleaning}, Writes.is_remove}
use Rattle.mt_insert.specs.KeptSplits.{HasSplits, last_of}
use Rattle.mt_rows.specs.{Rows.Bytes, declared.command.Command.Command, declared.command.Command.TheVariants.Remove, Maps.is_scan}
use Rattle.mt_descent.specs.KeptWalks.{GoesThrough}
use Rattle.mt_slices.specs.Keys.{IsStoredKey}
use Rattle.mt_operation.specs.Phases as kinds
use Rattle.mt_operation.specs.declared.walk.Aim.TheVariants as aims
use Rattle.mt_operation.specs.declared.scan.Stop.TheVariants as stops

-- live nodes stand on levels below their number
nodes_below : (c : Core) → StateInvariant c → IsArena c.arena.nodes c.arena.trees → AreBelow c.arena (live_count c.arena.nodes)
nodes_below c h arena k within live = any_below_live c.arena.nodes arena.nodes arena.ranged k within live

-- an operation that removes nothing is no removal
no_put : {A : Type 0} (op : Operation) → is_remove (ask op.task) ≡ true → is_remove (ask op.task) ≡ false → A
no_put op removes stays = absurd (both_ways _ stays removes)

-- nor is a get
no_read : {A : Type 0} (op : Operation) → is_remove (ask op.task) ≡ true → aim_of (ask op.task) ≡ aims.Read → A
no_read {A = A} op removes reads = by (ask op.task) removes reads
  where
    by : (command : Command) → is_remove command ≡ true → aim_of command ≡ aims.Read → A
    by (Remove key) removes reads = absurd (cc)
    by _ removes reads = absurd (cc)

-- one that comes to scan is a scan, which removes nothing
no_scanning : {A : Type 0} (op : Operation) → is_scan (ask op.task) ≡ false → aim_of (ask op.task) ≡ aims.Scan → A
no_scanning op plain scans = absurd (both_ways _ plain (aim_scan (ask op.task) scans))

no_removing : {A : Type 0} (op : Operation) → is_remove (ask op.task) ≡ true → aim_of (ask op.task) ≡ aims.Scan → A
no_removing op removes scans = absurd (both_ways _ (scan_no_remove (ask op.task) (aim_scan (ask op.task) scans)) removes)

-- no right half has more children than a node has
untold_few : (p : Phase) (v : ArenaView) (o : ℕ) (s : Splits) → IsArena v.nodes v.trees → HasSplits v o s → untold p v s ≤ 16
untold_few Reparent v o s arena h = omega (arith, (arena.nodes.each (last_of s).right h.parted.right.held.there).children.interior.room)
untold_few _ v o s arena h = omega arith

-- at whatever phase an operation stands, it may find its way again, and has made no step so far
starts_by : (k : Kind) (p : Phase) → (row p).kind ≡ k → (c : Core) (o : ℕ) (op : Operation) → IsArena c.arena.nodes c.arena.trees → IsOpenOperation c op → FitsAim k op.walk.aim → ends k ≡ false
    → is_remove (ask op.task) ≡ false → is_scan (ask op.task) ≡ false → IsKeptFor k p c o op → MadeBy k p (live_count c.arena.nodes) 0 c.arena op.walk op.splits
starts_by kinds.Descends p is c o op arena always kind left stays plain kept = none_walked p (subst IsWalkKind (sym is) tt) (budget_of (live_count c.arena.nodes)) c.arena op.walk (omega arith)
starts_by kinds.Reads p is c o op arena always kind left stays plain kept = none_walked p (subst IsWalkKind (sym is) tt) (budget_of (live_count c.arena.nodes)) c.arena op.walk (omega arith)
starts_by kinds.Locks p is c o op arena always kind left stays plain kept = none_walked p (subst IsWalkKind (sym is) tt) (budget_of (live_count c.arena.nodes)) c.arena op.walk (omega arith)
starts_by kinds.Scans p is c o op arena always kind left stays plain kept = no_scanning op plain (sym always.aim ∙ kind)
starts_by kinds.Climbs p is c o op arena always kind left stays plain kept =
    omega (arith, untold_few p c.arena o op.splits arena (climbed p (subst IsClimbKind (sym is) tt) c.arena o op.splits kept.climbs))
starts_by kinds.Drops p is c o op arena always kind left stays plain kept = no_put op kept.removes stays
starts_by kinds.Unlinks p is c o op arena always kind left stays plain kept = no_put op kept.removes stays
starts_by kinds.Cleans p is c o op arena always kind left stays plain kept = no_put op kept.removes stays
starts_by kinds.Ends p is c o op arena always kind left stays plain kept = absurd (let no = sym left in cc)
starts_by _ p is c o op arena always kind left stays plain kept = omega arith

-- a key goes through 32 layers at most, and so does the way to a link that is to be taken out
module _ (c : Core) (op : Operation) (stored : IsStoredKey op.task.key) where
  through_few : GoesThrough c.arena op.walk.place.tree op.walk.layer op.task.key → 0 + op.walk.layer ≤ 31
  through_few through = omega (arith, shallow_layer op.walk.layer op.task.key stored through.begun)

  cleans_few : IsCleaning c.arena op.task.key op.removal → (t : ℕ) → op.removal.cleans ≡ Some t → 0 + layer_of (tree_at c.arena.trees t).prefix ≤ 32
  cleans_few cleaning t cleans =
      let layer = layer_is (tree_at c.arena.trees cleaning.tree).prefix op.task.key cleaning.layer cleaning.through.of_tree in
      let shallow = shallow_layer cleaning.layer op.task.key stored cleaning.through.begun in
      subst (λ x. 0 + layer_of (tree_at c.arena.trees x).prefix ≤ 32) (same_Some cleaning.tree t (sym cleaning.cleans ∙ cleans)) (omega (arith, layer, shallow))

  bound_few : (told : Option Outcome) → IsBound told c op → HasRounds told 0 c.arena op.removal
  bound_few None bound = refl
  bound_few (Some told) bound = cleans_few bound.cleans

  unlocks_few : (halves : List Halves) (o : ℕ) → is_remove (ask op.task) ≡ true → MayUnlock halves c.arena o op → 0 + op.walk.layer ≤ 31
  unlocks_few [] o removes may = through_few (subst (λ (b : Bool). MayUnlockUnsplit b c.arena o op) removes may.0).removes.through
  unlocks_few (x ∷ halves) o removes may = no_put op removes may.1

  -- one that gives its locks back has its outcome
  returns_few : (o : ℕ) → is_remove (ask op.task) ≡ true → (told : Option Outcome) → IsReturning told c o op → (0 + op.walk.layer ≤ 31) × (told ≢ None)
  returns_few o removes None leaving = no_put op removes leaving.layering.stays
  returns_few o removes (Some told) unlocking = (unlocks_few op.splits.halves.items o removes unlocking.unlocks, λ none. absurd (cc))

-- what it goes through, where it takes a node or a layer out
through_of : (p : Phase) → IsRemovalPhase p → (v : ArenaView) (o : ℕ) (key : Bytes) (w : Walk) (r : Removal) → KeptRemoval p v o key w r → GoesThrough v w.place.tree w.layer key
through_of p i v o key w r = by_removal (λ p. KeptRemoval p v o key w r → GoesThrough v w.place.tree w.layer key)
    (λ k. k.removes.through) (λ k. k.removes.through) (λ k. k.removes.through) (λ k. k.removes.through) (λ k. k.removes.through)
    (λ k. k.holds.judged.at_border.through) p i

-- a removal at whatever phase may find its way again, and has made no step and no round so far
removal_starts : (k : Kind) (p : Phase) → (row p).kind ≡ k → (c : Core) (o : ℕ) (op : Operation) → IsOpenOperation c op → ends k ≡ false → is_remove (ask op.task) ≡ true
    → FitsAim k op.walk.aim → IsKeptFor k p c o op
    → RemovedBy k p (live_count c.arena.nodes) 0 0 c.arena op.walk × RoundsBy k op.outcome 0 c.arena op.walk op.removal
removal_starts kinds.Descends p is c o op always left removes kind kept = (none_walked p (subst IsWalkKind (sym is) tt) (round_budget (live_count c.arena.nodes) 0 c.arena) c.arena op.walk (omega arith), bound_few c op always.stored op.outcome kept.bound)
removal_starts kinds.Locks p is c o op always left removes kind kept = (none_walked p (subst IsWalkKind (sym is) tt) (round_budget (live_count c.arena.nodes) 0 c.arena) c.arena op.walk (omega arith), bound_few c op always.stored op.outcome kept.bound)
removal_starts kinds.Reads p is c o op always left removes kind kept = no_read op removes (sym always.aim ∙ kind)
removal_starts kinds.Scans p is c o op always left removes kind kept = no_removing op removes (sym always.aim ∙ kind)
removal_starts kinds.Judges p is c o op always left removes kind kept = (omega arith, bound_few c op always.stored op.outcome kept.bound)
removal_starts kinds.Writes p is c o op always left removes kind kept = no_put op removes (put_no_remove (ask op.task) (writing_put p c o op kept))
removal_starts kinds.Begins p is c o op always left removes kind kept = no_put op removes (put_no_remove (ask op.task) kept.put)
removal_starts kinds.Splits p is c o op always left removes kind kept = no_put op removes (put_no_remove (ask op.task) kept.put)
removal_starts kinds.Climbs p is c o op always left removes kind kept = no_put op removes kept.stays
removal_starts kinds.Layers p is c o op always left removes kind kept = no_put op removes kept.stays
removal_starts kinds.Drops p is c o op always left removes kind kept = (omega arith, through_few c op always.stored kept.drops.holds.judged.at_border.through)
removal_starts kinds.Unlinks p is c o op always left removes kind kept =
    (omega arith, through_few c op always.stored (through_of p (subst IsRemovalKind (sym is) tt) c.arena o op.task.key op.walk op.removal kept.kept))
removal_starts kinds.Cleans p is c o op always left removes kind kept =
    (omega arith, through_few c op always.stored (through_of p (subst IsRemovalKind (sym is) tt) c.arena o op.task.key op.walk op.removal kept.kept))
removal_starts kinds.Returns p is c o op always left removes kind kept = (omega arith, returns_few c op always.stored o removes op.outcome kept)
removal_starts kinds.Ends p is c o op always left removes kind kept = absurd (let no = sym left in cc)

-- whether it removes or not
point_first : (c : Core) (o : ℕ) (op : Operation) → StateInvariant c → IsArena c.arena.nodes c.arena.trees → is_done op.walk.phase ≡ false → is_scan (ask op.task) ≡ false → IsKeptOf c o op
    → (b : Bool) → is_remove (ask op.task) ≡ b → IsSoFar b (live_count c.arena.nodes) 0 c.arena op
point_first c o op h arena left plain kept true removes =
    let starts = removal_starts (row op.walk.phase).kind op.walk.phase refl c o op kept.always left removes kept.always.kind kept.kept in
    record { round = 0; most = omega arith; live = omega arith; rounds = starts.1; few = starts.0 }
point_first c o op h arena left plain kept false stays = record { below = λ _. nodes_below c h arena; few = starts_by (row op.walk.phase).kind op.walk.phase refl c o op arena kept.always kept.always.kind left stays plain kept.kept }

-- a scan at whatever phase may find its way again, and has made no step so far
scan_starts : (p : Phase) (v : ArenaView) (w : Walk) (stop : Stop) → IsOfKind p w.aim → w.aim ≡ aims.Scan → is_done p ≡ false → ScansBy p stop (live_count v.nodes) 0 v w
scan_starts Snap v w stop kind scans left = inr (omega (arith, behind_most v.nodes (at v w.place.node).low))
scan_starts Check v w stop kind scans left = inr (omega (arith, behind_most v.nodes (at v w.place.node).low))
scan_starts Hop v w (stops.Link slice tree) kind scans left = inr (omega arith)
scan_starts Hop v w (stops.Next slice) kind scans left = inr (omega arith)
scan_starts Hop v w stops.Tree kind scans left = omega arith
scan_starts Hop v w stops.Tenant kind scans left = omega arith
scan_starts p v w stop kind scans left = by (row p).kind refl kind left
  where
    by : (k : Kind) → (row p).kind ≡ k → FitsAim k w.aim → ends k ≡ false → WalksBy p (budget_of (live_count v.nodes)) 0 v w
    by kinds.Descends is kind left = none_walked p (subst IsWalkKind (sym is) tt) (budget_of (live_count v.nodes)) v w (omega arith)
    by kinds.Ends is kind left = absurd (let no = sym left in cc)
    by _ is kind left = absurd (let both = sym kind ∙ scans in cc)

-- whether it scans or not
coming_first : (c : Core) (o : ℕ) (op : Operation) → StateInvariant c → IsArena c.arena.nodes c.arena.trees → is_done op.walk.phase ≡ false → IsKeptOf c o op
    → (b : Bool) → is_scan (ask op.task) ≡ b → IsComing b (live_count c.arena.nodes) (live_trees c.arena.trees) 0 c.arena op
coming_first c o op h arena left kept false plain = point_first c o op h arena left plain kept (is_remove (ask op.task)) refl
coming_first c o op h arena left kept true scans = record {
  live = omega arith;
  standing = omega arith;
  below = nodes_below c h arena;
  round = 0;
  few = scan_starts op.walk.phase c.arena op.walk op.scan.stop kept.always.kind (kept.always.aim ∙ scan_aim (ask op.task) scans) left;
  spent = omega (
    arith,
    nodes_most c.arena.trees c.arena.nodes op.task.key,
    rounds_less (round_of (live_count c.arena.nodes)) (trees_ahead c.arena.trees op.task.key) (live_trees c.arena.trees) (trees_most c.arena.trees op.task.key),
  );
}

-- nobody is in the way of an operation while nobody else holds a node; it is asked what is shown
pub unhindered_first : (c : Core) (o : ℕ) (op : OperationView) → StateInvariant c → IsArena c.arena.nodes c.arena.trees → IsUndisturbed (shown c) o op
    → (u : IsUnhindered c o (live_count c.arena.nodes) (live_trees c.arena.trees) 0) × (ask u.op.task ≡ op.command)
unhindered_first c o op h arena u =
    let inside = inside_of c.table o op u.there in
    let inner : Operation = inside.0 in
    let left : is_done inner.walk.phase ≡ false = ap (λ (x : OperationView). is_done x.phase) inside.2 ∙ u.unfinished in (
      record {
        op = inner;
        there = inside.1;
        free = u.free;
        point = coming_first c o inner h arena left (h.ops o inner inside.1) (is_scan (ask inner.task)) refl;
      },
      ap (λ (x : OperationView). x.command) inside.2,
    )
