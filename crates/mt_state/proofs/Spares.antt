-- What an operation remembers is in no place that is given out, as long as only those are that were taken out by its birth.
use Rattle.std.proofs.Common.{◌≡◌, ℕ, refl, subst}
use Rattle.mt_arena.specs.{Forests.tree_at, Arena.{ArenaView, content_of}}
use Rattle.mt_operation.specs.{declared.phase.Phase.Phase, declared.phase.Phase.TheVariants.{Enter, Check, Hop}, declared.operation.Operation.Operation, Phases.{Kind, row}}
use Rattle.mt_descent.{specs.KeptBack.GivesOutBefore, proofs.KeptBack.spared}
use Rattle.mt_layer.specs.KeptLayers.{GivesNoneInto}
use Rattle.mt_state.specs.{KeptBack.{ScanRemembersKept, IsScanBack, IsWalkBack, IsBackAt, IsKeptBack}, Given.{SparesScan, SparesWalk, SparesOperation}}
use Rattle.mt_descent.specs.Remembered as walks
use Rattle.mt_scan.specs.Remembered as scans
use Rattle.mt_operation.specs.Phases as kinds

module _ (old mid : ArenaView) (o : ℕ) (op : Operation) (g : GivesOutBefore op.birth old mid) (h : IsKeptBack old o op) where
  spares_at : (p : Phase) → ScanRemembersKept op.birth old p op.walk op.scan.stop → scans.IsGivenElsewhere old mid p op.walk op.scan.stop
  spares_at p back = record {
    count = g.gives.count;
    tree_count = g.gives.tree_count;
    nodes = λ k r. g.nodes k (back.nodes k r);
    trees = λ t r. g.trees t (back.trees t r);
  }

  spares_scan : (p : Phase) → IsScanBack p old op → SparesScan p old mid op
  spares_scan Check back = spares_at Check back
  spares_scan Hop back = spares_at Hop back
  spares_scan _ back = spared op.birth old mid op.walk g back

  spares_walk : (of : Kind) (p : Phase) → IsWalkBack of p old op → SparesWalk of p old mid op
  spares_walk kinds.Descends p back = spared op.birth old mid op.walk g back
  spares_walk kinds.Locks p back = spared op.birth old mid op.walk g back
  spares_walk kinds.Reads p back = spared op.birth old mid op.walk g back
  spares_walk kinds.Scans p back = spares_scan p back
  spares_walk _ p back = tt

  -- the tree into which it goes
  entered : op.walk.phase ≡ Enter → tree_at mid.trees op.walk.place.tree ≡ tree_at old.trees op.walk.place.tree
  entered enters =
      let elsewhere = spared op.birth old mid op.walk g (subst (λ (p : Phase). IsBackAt p old op) enters h.walk) in
      let given = subst (λ (p : Phase). walks.IsGivenElsewhere old mid p op.walk) enters elsewhere in
      given.trees op.walk.place.tree refl

  pub spares : GivesNoneInto o old mid → content_of mid ≡ content_of old → SparesOperation old mid o op
  spares making contents = record {
    beside = record { gives = g.gives; trees = λ k within holds. g.trees _ (h.held k within holds).1 };
    making = making;
    contents = contents;
    walk = spares_walk (row op.walk.phase).kind op.walk.phase h.walk;
    enter = entered;
    cleans = λ t is. g.trees t (h.cleans t is);
  }
