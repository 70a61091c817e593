-- What the bodies of a scan's steps make of its operation: for `snap_node` and `check_node`.
use Rattle.std.proofs.Common.{◌≡◌, ◌≢◌, ℕ, List, Option, Some, None, inl, refl, sym, ap, subst, ◌∙◌}
use Rattle.mt_rows.specs.{declared.reply.Reply.TheVariants.{NoMemory, Pairs}, Limits.ArePairs, Stamps.Stamped}
use Rattle.mt_arena.specs.{Arena.ArenaView, Accesses.at}
use Rattle.mt_operation.specs.{declared.phase.Phase.Phase, declared.phase.Phase.TheVariants.Done, declared.walk.Walk.Walk, declared.task.Task.Task}
use Rattle.mt_operation.specs.{declared.scan.Scan.Scan, declared.operation.Operation.Operation, Operations.{splits_of, scan_of}}
use Rattle.mt_descent.specs.{Pasts.Past, WalkMoves.Continues}
use Rattle.mt_held.specs.Moves.{walk_done}
use Rattle.mt_scan.specs.{Snaps.{prefix_in, SnapsOr}, Checks.{Asks, IsCheck, ChecksOr}, Hops.KeptScan}
use Rattle.mt_state.specs.{Calls.IsStillScan, Promises.IsInTheWay}
use Rattle.mt_core.specs.Looks.{MaySnap, MayCompare, IsStopped, TellsCompared}

-- an operation that a body has changed, but for these three
abbrev went : Operation → Task → Walk → Scan → Operation
went op task w scan = record op { task = task; walk = w; scan = scan }

-- it is as it was where these are
went_same : (op : Operation) (task : Task) (w : Walk) (scan : Scan) → task ≡ op.task → w ≡ op.walk → scan ≡ op.scan → went op task w scan ≡ op
went_same op task w scan t u s = λ a. record op { task = t a; walk = u a; scan = s a }

module _ (v : ArenaView) (op : Operation) where
  -- who is in the way of a scan that stands at a border node
  abbrev IsBlockedBy : ℕ → Operation → Type 0
  IsBlockedBy holder after = IsInTheWay v op.walk.phase op.walk (splits_of op.splits) op.removal (scan_of op.task op.scan) holder × (after ≡ op)

  pub blocked_snap : (w : Walk) (scan : Scan) (r : Option ℕ) (holder : ℕ) → r ≡ Some holder → MaySnap v op
      → SnapsOr v op.walk w (scan_of op.task op.scan) (scan_of op.task scan) r → ((q : ℕ) → r ≡ Some q → scan ≡ op.scan)
      → IsBlockedBy holder (went op op.task w scan)
  blocked_snap w scan r holder is may snaps stays =
      let blocked : SnapsOr v op.walk w (scan_of op.task op.scan) (scan_of op.task scan) (Some holder) = subst (SnapsOr v op.walk w (scan_of op.task op.scan) (scan_of op.task scan)) is snaps in (
        subst (λ (p : Phase). IsInTheWay v p op.walk (splits_of op.splits) op.removal (scan_of op.task op.scan) holder) (sym may.phase)
            (op.walk.place.node, refl, may.kept.covers.remembered.there, blocked.2),
        went_same op op.task w scan refl blocked.0 (stays holder is),
      )

  abbrev ChecksSo : Task → Walk → Scan → ℕ → List ℕ → Option ℕ → Type 0
  ChecksSo task w scan count columns r = ChecksOr (at v op.walk.place.node) (prefix_in v op.walk) count columns op.walk w (scan_of op.task op.scan) (scan_of task scan) r

  pub blocked_check : (task : Task) (w : Walk) (scan : Scan) (r : Option ℕ) (holder : ℕ) → r ≡ Some holder → (may : MayCompare v op)
      → ((count : ℕ) (columns : List ℕ) → Asks op.task count columns → ChecksSo task w scan count columns r)
      → ((q : ℕ) → r ≡ Some q → (scan ≡ op.scan) × (task ≡ op.task)) → IsBlockedBy holder (went op task w scan)
  blocked_check task w scan r holder is may checks stays =
      let asked = may.asked in
      let blocked : ChecksSo task w scan asked.count asked.columns (Some holder) = subst (ChecksSo task w scan asked.count asked.columns) is (checks asked.count asked.columns asked.asks) in
      let same = stays holder is in (
        subst (λ (p : Phase). IsInTheWay v p op.walk (splits_of op.splits) op.removal (scan_of op.task op.scan) holder) (sym may.phase)
            (op.walk.place.node, refl, may.kept.at_border.covers.remembered.there, blocked.2),
        went_same op task w scan same.1 blocked.0 same.0,
      )

  -- what it collected may be shown where it is done
  pub may_show : (task : Task) (w : Walk) (scan : Scan) (r : Option ℕ) → r ≡ None → (may : MayCompare v op)
      → ((count : ℕ) (columns : List ℕ) → Asks op.task count columns → ChecksSo task w scan count columns r)
      → IsStillScan op.task task → Continues op.walk w → w.phase ≡ Done → ArePairs scan.collected.items
  may_show task w scan r is may checks still same ends =
      let asked = may.asked in
      may.shows task w scan asked.count asked.columns asked.asks (subst (ChecksSo task w scan asked.count asked.columns) is (checks asked.count asked.columns asked.asks)) still same ends

  -- memory stopped it
  pub stopped : (step : ℕ) (task : Task) (w : Walk) (scan : Scan) (after : Operation) → task ≡ op.task → w ≡ op.walk
      → after ≡ record (went op task w scan) { walk = walk_done w; outcome = Some (record { reply = NoMemory; at = step }) } → IsStopped step op after
  stopped step task w scan after t u is = record {
    scan = scan;
    is = is ∙ (λ a. record op { task = t a; walk = walk_done (u a); outcome = Some (record { reply = NoMemory; at = step }); scan = scan });
  }

  -- it has compared the version, and shows what it has where it is done
  pub compared : (step : ℕ) (task : Task) (w : Walk) (scan : Scan) (after : Operation) (r : Option ℕ) → r ≡ None
      → ((count : ℕ) (columns : List ℕ) → Asks op.task count columns → ChecksSo task w scan count columns r)
      → IsStillScan op.task task → Continues op.walk w
      → (r ≡ None → w.phase ≢ Done → (past : Past) (row : Option Stamped) → KeptScan w.phase v past task.key row w scan.stop)
      → (w.phase ≡ Done → after ≡ record (went op task w scan) { outcome = Some (record { reply = Pairs scan.collected.items; at = step }); scan = after.scan })
      → (w.phase ≢ Done → after ≡ went op task w scan) → after.walk ≡ w → TellsCompared v step op after
  compared step task w scan after r is checks still same kept ends goes walk = inl (record {
    task = task;
    scan = scan;
    checks = λ count columns asks. subst (λ (x : Walk). IsCheck (at v op.walk.place.node) (prefix_in v op.walk) count columns op.walk x (scan_of op.task op.scan) (scan_of task scan)) (sym walk)
        (subst (ChecksSo task w scan count columns) is (checks count columns asks));
    still = still;
    same = subst (Continues op.walk) (sym walk) same;
    kept = λ other past row. subst (λ (x : Walk). KeptScan x.phase v past task.key row x scan.stop) (sym walk) (kept is (λ done. other (ap (λ (x : Walk). x.phase) walk ∙ done)) past row);
    goes_on = λ other. goes (λ done. other (ap (λ (x : Walk). x.phase) walk ∙ done)) ∙ (λ a. record op { task = task; walk = sym walk a; scan = scan });
    ends = λ done.
        ends (ap (λ (x : Walk). x.phase) (sym walk) ∙ done)
        ∙ (λ a. record op { task = task; walk = sym walk a; outcome = Some (record { reply = Pairs scan.collected.items; at = step }); scan = after.scan });
  })
