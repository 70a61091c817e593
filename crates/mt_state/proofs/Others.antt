-- A step of another operation: first places are given out, and then it goes on. What is kept of an operation stays, and so does what it remembers.
use Rattle.std.proofs.Common.{◌≡◌, ◌≢◌, ℕ, ◌<◌, ◌≤◌, Some, sym, ap, ◌∙◌, arith}
use Rattle.mt_arena.specs.{NodeView.NodeView, Arena.{ArenaView, IsArena}}
use Rattle.mt_operation.specs.{declared.phase.Phase.Phase, declared.phase.Phase.TheVariants.{Check, Hop}, declared.operation.Operation.Operation, Phases.{Kind, row}}
use Rattle.mt_operation.specs.{Operations.view_of, Tables.{op_at as operation_at}}
use Rattle.mt_descent.specs.{Pasts.AreStamped, KeptBack.{RemembersKept, RetiresAfter, GivesOutBefore}}
use Rattle.mt_descent.proofs.KeptBack.{node_stays_out, tree_stays_out, spared, kept_where_given}
use Rattle.mt_state.specs.{Views.{Core, past_of}, KeptOperations.IsKeptOf, KeptBack.{ArenaFacts, ScanRemembersKept, IsScanBack, IsWalkBack, IsKeptBack}}
use Rattle.mt_state.specs.{Given.{with_given, SparesOperation}, Invariant.StateGuarantee}
use Rattle.mt_state.proofs.{Rely.{held_was, stays}, Given.given, Spares.spares, KeptBack.{back_stays, kept_back_stays}, Shown.shown_there}
use Rattle.mt_layer.proofs.Given as layers
use Rattle.mt_operation.specs.Phases as kinds

-- where those places alone are given out that a step took out up to one, all from that one on are spared, and so are those from a later one on
gives_before : (least birth : ℕ) (old mid : ArenaView) → least ≤ birth → GivesOutBefore least old mid → GivesOutBefore birth old mid
gives_before least birth old mid upto g = record {
  gives = g.gives;
  nodes = λ k out. g.nodes k (record { border = λ i lt is. omega (arith, upto, out.border i lt is); interior = λ i lt is. omega (arith, upto, out.interior i lt is) });
  trees = λ t out. g.trees t (λ i lt is. omega (arith, upto, out i lt is));
}

module _ (old new : Core) (o q : ℕ) (before : IsArena old.arena.nodes old.arena.trees) (after : IsArena new.arena.nodes new.arena.trees) (g : StateGuarantee old new o) (other : q ≢ o)
    (op : Operation) (there : operation_at old.table q ≡ Some op) (back : IsKeptBack old.arena q op) where
  early : GivesOutBefore op.birth old.arena g.arena.mid
  early = gives_before g.arena.gives.least op.birth old.arena g.arena.mid (g.arena.gives.before q (view_of op) (shown_there old.table q op there)) g.arena.gives.given

  -- nothing is given out that it remembers
  elsewhere : SparesOperation old.arena g.arena.mid q op
  elsewhere = spares old.arena g.arena.mid q op early back (layers.gives_none o q old.arena g.arena.mid new.arena before after early.gives g.arena.step other) g.arena.gives.contents

  kept_mid : IsKeptOf old q op → IsKeptOf (with_given old g.arena.mid) q op
  kept_mid h = given old g.arena.mid q op before elsewhere h

  -- so all that is kept of it stays
  pub kept_over : AreStamped (past_of new) new.arena → old.steps < new.steps → IsKeptOf old q op → IsKeptOf new q op
  kept_over stamped later h = stays old new o q after stamped g other later op (kept_mid h)

  -- and what it remembers is kept back after the giving out
  module _ (lists : RetiresAfter op.birth old.arena.retired g.arena.mid.retired) where
    walk_mid : RemembersKept op.birth old.arena op.walk → RemembersKept op.birth g.arena.mid op.walk
    walk_mid h = kept_where_given op.birth old.arena g.arena.mid op.walk (spared op.birth old.arena g.arena.mid op.walk early h) lists h

    scan_at : (p : Phase) → ScanRemembersKept op.birth old.arena p op.walk op.scan.stop → ScanRemembersKept op.birth g.arena.mid p op.walk op.scan.stop
    scan_at p h = record {
      nodes = λ k r. node_stays_out op.birth old.arena.retired g.arena.mid.retired k lists (h.nodes k r);
      trees = λ t r. tree_stays_out op.birth old.arena.retired g.arena.mid.retired t lists (h.trees t r);
    }

    scan_mid : (p : Phase) → IsScanBack p old.arena op → IsScanBack p g.arena.mid op
    scan_mid Check h = scan_at Check h
    scan_mid Hop h = scan_at Hop h
    scan_mid _ h = walk_mid h

    mid_by : (of : Kind) (p : Phase) → IsWalkBack of p old.arena op → IsWalkBack of p g.arena.mid op
    mid_by kinds.Descends p h = walk_mid h
    mid_by kinds.Locks p h = walk_mid h
    mid_by kinds.Reads p h = walk_mid h
    mid_by kinds.Scans p h = scan_mid p h
    mid_by _ p h = tt

    back_mid : IsKeptBack g.arena.mid q op
    back_mid = record {
      walk = mid_by (row op.walk.phase).kind op.walk.phase back.walk;
      held = λ k within holds.
          let was = held_was q k old.arena g.arena.mid early.gives within holds in
          back_stays op.birth old.arena g.arena.mid k lists (ap (λ (n : NodeView). n.tree) was.1)
          (back.held k was.0 (ap (λ (n : NodeView). n.holder) (sym was.1) ∙ holds));
      cleans = λ t is. tree_stays_out op.birth old.arena.retired g.arena.mid.retired t lists (back.cleans t is);
    }

  -- and after the step
  pub back_over : ArenaFacts new.arena → IsKeptOf old q op → IsKeptBack new.arena q op
  back_over facts h = kept_back_stays old new o q facts g other op (kept_mid h) (back_mid (g.arena.gives.lists op.birth h.always.born))
