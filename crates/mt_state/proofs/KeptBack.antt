-- What an operation remembers stays kept back: through the steps of others and through its own: for all phases.
use Rattle.std.proofs.Common.{◌≡◌, ◌≢◌, ℕ, ◌+◌, ◌<◌, ◌⊎◌, inl, inr, false, length, Option, Some, None, refl, sym, ap, subst, ◌∙◌, arith}
use Rattle.mt_rows.specs.Stamps.{Stamped}
use Rattle.mt_arena.specs.{declared.tree.Standing.Standing, declared.tree.Standing.TheVariants.{Made, Live, Dead}, Forests.{tree_at, no_tree}, Layers.slot_at}
use Rattle.mt_arena.specs.{NodeView.NodeView, Idle.{AreRetired, is_idle_tree, has_ended}, Arena.{ArenaView, Guarantee}, Accesses.at, Given.IsTreeOutFrom}
use Rattle.mt_border.specs.Held.{Link as LinkTo}
use Rattle.mt_operation.specs.declared.phase.Phase.{Phase}
use Rattle.mt_operation.specs.declared.phase.Phase.TheVariants.{Enter, Child, Verify, Load, Confirm, Forward, Check, Hop, Done}
use Rattle.mt_operation.specs.{declared.walk.Walk.Walk, declared.scan.Stop.Stop, declared.operation.Operation.Operation, Phases.{Kind, row}}
use Rattle.mt_operation.specs.Tables.{op_at as operation_at}
use Rattle.mt_operation.proofs.Phases.{by_descent}
use Rattle.mt_descent.specs.{KeptWalks.IsKept, Remembered.{RemembersNode, RemembersTree, Learns}, KeptBack.{RemembersKept, RetiresAfter}, WalkMoves.walk_into}
use Rattle.mt_descent.proofs.{Listing.unlisted, KeptBack.{node_stays_out, tree_stays_out, live_node_out, live_tree_out, named_out, kept_by_look, kept_by_step, kept_into}}
use Rattle.mt_state.specs.{Views.{Core, shown, past_of}, Ways.IsOnWay, KeptOperations.{IsKeptFor, IsReadingAt, IsScanningAt, IsKeptOf}}
use Rattle.mt_state.specs.KeptBack.{ArenaFacts, ScanRemembersKept, IsScanBack, IsWalkBack, IsBackAt, IsHeldBack, IsKeptBack, Retires, TakesLive}
use Rattle.mt_state.specs.{Given.{with_given, ChangesArena}, Invariant.{StateInvariant, StateGuarantee}}
use Rattle.mt_state.proofs.{Rely.holder_was, Descents.by_way}
use Rattle.mt_scan.specs.Remembered as scans
use Rattle.mt_operation.specs.Phases as kinds

-- a tree that is not dead is in no list
lasting : (standing : Standing) → standing ≢ Dead → has_ended standing ≡ false
lasting (Made q) stands = refl
lasting Live stands = refl
lasting Dead stands = absurd (stands refl)

tree_out : (v : ArenaView) → AreRetired v.nodes v.trees v.retired → (step t : ℕ) → (tree_at v.trees t).standing ≢ Dead → IsTreeOutFrom step v.retired t
tree_out v retired step t stands = λ i lt is.
    absurd (unlisted is_idle_tree no_tree v.trees v.retired.trees retired.of_trees i t lt is (lasting (tree_at v.trees t).standing stands))

-- nor is a live node, or its tree
live_back : (v : ArenaView) → ArenaFacts v → (birth k : ℕ) → k < length v.nodes → (at v k).version.deleted ≡ false → IsHeldBack birth v k
live_back v facts birth k within live = (
  live_node_out v facts.retired (birth + 1) k live,
  tree_out v facts.retired (birth + 1) (at v k).tree ((facts.arena.forest.homes k (at v k).tree within (facts.arena.forest.tree_there k within)).standing refl live),
)

-- what was kept back still is
pub back_stays : (birth : ℕ) (old new : ArenaView) (k : ℕ) → RetiresAfter birth old.retired new.retired → (at new k).tree ≡ (at old k).tree
    → IsHeldBack birth old k → IsHeldBack birth new k
back_stays birth old new k lists same h = (
  node_stays_out birth old.retired new.retired k lists h.0,
  subst (λ t. IsTreeOutFrom (birth + 1) new.retired t) (sym same) (tree_stays_out birth old.retired new.retired (at old k).tree lists h.1),
)

-- the step of another operation, from where places were given out
module _ (old new : Core) (o q : ℕ) (facts : ArenaFacts new.arena) (g : StateGuarantee old new o) (other : q ≢ o) (op : Operation) (kept : IsKeptOf (with_given old g.arena.mid) q op) where
  abbrev start : Core
  start = with_given old g.arena.mid

  lists : RetiresAfter op.birth start.arena.retired new.arena.retired
  lists = g.arena.retires op.birth kept.always.born

  walk_on : (row : Option Stamped) → IsKept start.arena (past_of start) op.task.key row op.walk → RemembersKept op.birth start.arena op.walk
      → RemembersKept op.birth new.arena op.walk
  walk_on row k h = kept_by_step o op.birth start.arena new.arena g.arena.step.nodes g.arena.step.lost facts.arena facts.retired lists (past_of start) op.task.key row op.walk k h

  scan_on : (p : Phase) → ScanRemembersKept op.birth start.arena p op.walk op.scan.stop → ScanRemembersKept op.birth new.arena p op.walk op.scan.stop
  scan_on p h = record {
    nodes = λ k r. node_stays_out op.birth start.arena.retired new.arena.retired k lists (h.nodes k r);
    trees = λ t r. tree_stays_out op.birth start.arena.retired new.arena.retired t lists (h.trees t r);
  }

  reading_on : (p : Phase) → IsReadingAt p start op → RemembersKept op.birth start.arena op.walk → RemembersKept op.birth new.arena op.walk
  reading_on Load k h = walk_on None k.way.kept h
  reading_on Confirm k h = walk_on k.row k.kept h
  reading_on _ k h = walk_on None k.kept h

  scanning_on : (p : Phase) → IsScanningAt p start op → IsScanBack p start.arena op → IsScanBack p new.arena op
  scanning_on Check k h = scan_on Check h
  scanning_on Hop k h = scan_on Hop h
  scanning_on _ k h = walk_on None k.kept h

  on_by : (of : Kind) (p : Phase) → IsKeptFor of p start q op → IsWalkBack of p start.arena op → IsWalkBack of p new.arena op
  on_by kinds.Descends p k h = walk_on None k.kept h
  on_by kinds.Locks p k h = walk_on None k.kept h
  on_by kinds.Reads p k h = reading_on p k h
  on_by kinds.Scans p k h = scanning_on p k h
  on_by _ p k h = tt

  pub kept_back_stays : IsKeptBack g.arena.mid q op → IsKeptBack new.arena q op
  kept_back_stays h = record {
    walk = on_by (row op.walk.phase).kind op.walk.phase kept.kept h.walk;
    held = λ k within holds.
        let was = holder_was o q k start.arena new.arena g.arena.step within holds other in
        back_stays op.birth start.arena new.arena k lists (g.arena.step.nodes.nodes k was.0).tree (h.held k was.0 was.1);
    cleans = λ t is. tree_stays_out op.birth start.arena.retired new.arena.retired t lists (h.cleans t is);
  }

-- what a step brings of what its own operation remembers: all that its walk does, and that the tree whose link it goes to take out was there, or was taken out
-- after its birth
pub record BringsBack (c : Core) (arena : ArenaView) (before after : Operation) : Type 0 where
  pub birth : after.birth ≡ before.birth
  pub walk : ArenaFacts c.arena → IsBackAt after.walk.phase arena after
  pub cleans : ArenaFacts c.arena → (t : ℕ) → after.removal.cleans ≡ Some t → IsTreeOutFrom (before.birth + 1) c.arena.retired t

-- a step of one's own
module _ (c : Core) (o : ℕ) (before : Operation) (h : StateInvariant c) (there : operation_at c.table o ≡ Some before) (arena : ArenaView) (changes : ChangesArena (shown c) o arena)
    (taken_out : Retires c.steps c.arena.retired arena.retired) (takes : TakesLive o c.arena arena) where
  own_lists : RetiresAfter before.birth c.arena.retired arena.retired
  own_lists = taken_out.after before.birth (h.ops o before there).always.born

  -- a node that it held, or that was live, is in no place that was given out: it is of the same tree after the step
  same_tree : (k : ℕ) → k < length c.arena.nodes → ((at c.arena k).holder ≡ Some o) ⊎ ((at c.arena k).version.deleted ≡ false) → (at arena k).tree ≡ (at c.arena k).tree
  same_tree k inside by = elim (changes.gives.given.gives.nodes k inside) [
    | inl same ↦ (changes.step.nodes.nodes k (omega (arith, inside, changes.gives.given.gives.count))).tree ∙ ap (λ (n : NodeView). n.tree) same
    | inr given ↦ elim by [
      | inl held ↦ absurd (let none = sym given.free ∙ held in cc)
      | inr live ↦ absurd (let both = sym given.out ∙ live in cc)
    ]
  ]

  -- what it held is kept back, and so is what it takes, which is live
  own_held : ArenaFacts c.arena → ArenaFacts arena → (k : ℕ) → k < length arena.nodes → (at arena k).holder ≡ Some o → IsHeldBack before.birth arena k
  own_held was are k within holds = elim (takes k within holds) [
    | inl (inside, by) ↦
        let in_old : IsHeldBack before.birth c.arena k = elim by [
          | inl held ↦ (h.remembered o before there).held k inside held
          | inr live ↦ live_back c.arena was before.birth k inside live
        ] in
        back_stays before.birth c.arena arena k own_lists (same_tree k inside by) in_old
    | inr live ↦ live_back arena are before.birth k within live
  ]

  pub own_back : (after : Operation) → BringsBack c arena before after → ArenaFacts c.arena → ArenaFacts arena → IsKeptBack arena o after
  own_back after b was are = record {
    walk = b.walk was;
    held = λ k within holds. subst (λ n. IsHeldBack n arena k) (sym b.birth) (own_held was are k within holds);
    cleans = λ t is. subst (λ n. IsTreeOutFrom (n + 1) arena.retired t) (sym b.birth)
        (tree_stays_out before.birth c.arena.retired arena.retired t own_lists (b.cleans was t is));
  }

-- an operation on its way remembers what its walk does
pub on_walk : (p : Phase) → IsOnWay p → (v : ArenaView) (op : Operation) → RemembersKept op.birth v op.walk → IsBackAt p v op
on_walk p on v op = by_way (λ q. RemembersKept op.birth v op.walk → IsBackAt q v op) (by_descent _ (λ k. k) (λ k. k) (λ k. k) (λ k. k) (λ k. k)) (λ k. k) (λ k. k) (λ k. k) p on

pub walk_on_way : (p : Phase) → IsOnWay p → (v : ArenaView) (op : Operation) → IsBackAt p v op → RemembersKept op.birth v op.walk
walk_on_way p on v op = by_way (λ q. IsBackAt q v op → RemembersKept op.birth v op.walk) (by_descent _ (λ k. k) (λ k. k) (λ k. k) (λ k. k) (λ k. k)) (λ k. k) (λ k. k) (λ k. k) p on

-- what a walk remembers does not hang on its first step
nodes_aside : (p : Phase) (w : Walk) (n k : ℕ) → RemembersNode p (record w { first = n }) k → RemembersNode p w k
nodes_aside Enter w n k r = r
nodes_aside Child w n k r = r
nodes_aside Verify w n k r = r
nodes_aside Forward w n k r = r
nodes_aside Done w n k r = r
nodes_aside _ w n k r = r

trees_aside : (p : Phase) (v : ArenaView) (w : Walk) (n t : ℕ) → RemembersTree p v (record w { first = n }) t → RemembersTree p v w t
trees_aside Load v w n t r = r
trees_aside Confirm v w n t r = r
trees_aside Done v w n t r = r
trees_aside _ v w n t r = r

pub first_aside_back : (birth : ℕ) (v : ArenaView) (w : Walk) (n : ℕ) → RemembersKept birth v w → RemembersKept birth v (record w { first = n })
first_aside_back birth v w n h = record { nodes = λ k r. h.nodes k (nodes_aside w.phase w n k r); trees = λ t r. h.trees t (trees_aside w.phase v w n t r) }

-- a look keeps back what it comes to remember
pub look_back : (birth : ℕ) (v : ArenaView) (w x : Walk) (n : ℕ) → ArenaFacts v → Learns v w x → RemembersKept birth v w → RemembersKept birth v (record x { first = n })
look_back birth v w x n facts learns h = first_aside_back birth v x n (kept_by_look v facts.retired facts.arena facts.named birth w x learns h)

-- so does one of a scan
pub scan_look_back : (birth : ℕ) (v : ArenaView) (w x : Walk) (was is : Stop) → ArenaFacts v → scans.Learns v w x was is → ScanRemembersKept birth v w.phase w was
    → ScanRemembersKept birth v x.phase x is
scan_look_back birth v w x was is facts learns h = record {
  nodes = λ k r. elim (learns.nodes k r) [
    | inl live ↦ live_node_out v facts.retired (birth + 1) k live
    | inr may ↦ elim may [
      | inl remembered ↦ h.nodes k remembered
      | inr named ↦ named_out v facts.retired facts.arena facts.named birth named.0 k named.2 (h.nodes named.0 named.1)
    ]
  ];
  trees = λ t r. elim (learns.trees t r) [
    | inl live ↦ live_tree_out v facts.retired (birth + 1) t live
    | inr remembered ↦ h.trees t remembered
  ];
}

-- a scan on its way remembers what its walk does
scan_nodes : (p : Phase) → IsOnWay p → (w : Walk) (stop : Stop) (k : ℕ) → scans.RemembersNode p w stop k → RemembersNode p w k
scan_nodes Check on w stop k r = absurd on
scan_nodes Hop on w stop k r = absurd on
scan_nodes _ on w stop k r = r

scan_trees : (p : Phase) → IsOnWay p → (v : ArenaView) (w : Walk) (stop : Stop) (t : ℕ) → scans.RemembersTree p w stop t → RemembersTree p v w t
scan_trees Check on v w stop t r = absurd on
scan_trees Hop on v w stop t r = absurd on
scan_trees Load on v w stop t r = absurd on
scan_trees Confirm on v w stop t r = absurd on
scan_trees _ on v w stop t r = r

walk_nodes : (p : Phase) → IsOnWay p → (w : Walk) (stop : Stop) (k : ℕ) → RemembersNode p w k → scans.RemembersNode p w stop k
walk_nodes Check on w stop k r = absurd on
walk_nodes Hop on w stop k r = absurd on
walk_nodes _ on w stop k r = r

walk_trees : (p : Phase) → IsOnWay p → (v : ArenaView) (w : Walk) (stop : Stop) (t : ℕ) → RemembersTree p v w t → scans.RemembersTree p w stop t
walk_trees Check on v w stop t r = absurd on
walk_trees Hop on v w stop t r = absurd on
walk_trees Load on v w stop t r = absurd on
walk_trees Confirm on v w stop t r = absurd on
walk_trees _ on v w stop t r = r

pub scan_of_walk : (birth : ℕ) (v : ArenaView) (w : Walk) (stop : Stop) → IsOnWay w.phase → RemembersKept birth v w → ScanRemembersKept birth v w.phase w stop
scan_of_walk birth v w stop on h =
    record { nodes = λ k r. h.nodes k (scan_nodes w.phase on w stop k r); trees = λ t r. h.trees t (scan_trees w.phase on v w stop t r) }

pub walk_of_scan : (birth : ℕ) (v : ArenaView) (w : Walk) (stop : Stop) → IsOnWay w.phase → ScanRemembersKept birth v w.phase w stop → RemembersKept birth v w
walk_of_scan birth v w stop on h =
    record { nodes = λ k r. h.nodes k (walk_nodes w.phase on w stop k r); trees = λ t r. h.trees t (walk_trees w.phase on v w stop t r) }

-- a walk that goes into the tree of a link in a live node, which is live, and one that goes to the top
pub link_back : (birth : ℕ) (v : ArenaView) → ArenaFacts v → (arena : ArenaView) → arena.retired ≡ v.retired → (k i u : ℕ) → k < length v.nodes
    → (at v k).version.deleted ≡ false → i < length (at v k).slots → (slot_at (at v k) i).held ≡ LinkTo u → (w : Walk) (layer : ℕ)
    → RemembersKept birth arena (walk_into w u layer)
link_back birth v facts arena same k i u within live in_range link w layer =
    kept_into birth arena w u layer (subst (λ gone. IsTreeOutFrom (birth + 1) gone u) (sym same)
    (live_tree_out v facts.retired (birth + 1) u (facts.arena.layers.links k within live i u in_range link).live))

pub top_back : (birth : ℕ) (v : ArenaView) → ArenaFacts v → (arena : ArenaView) → arena.retired ≡ v.retired → (w : Walk) → RemembersKept birth arena (walk_into w 0 0)
top_back birth v facts arena same w =
    kept_into birth arena w 0 0 (subst (λ gone. IsTreeOutFrom (birth + 1) gone 0) (sym same) (live_tree_out v facts.retired (birth + 1) 0 facts.arena.forest.top.live))
