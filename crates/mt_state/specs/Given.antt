-- What a step that gives places out has to leave as it was for an operation: the places that it remembers at its phase.
use Rattle.std.specs.Prelude.{◌≡◌, ℕ, ◌<◌, ◌≤◌, if◌then◌else◌, List, length, Some}
use Rattle.mt_arena.specs.{declared.retired.Retired.Retired, NodeView.NodeView, Idle.RetiredPlaces, Accesses.at}
use Rattle.mt_arena.specs.{Forests.tree_at, Arena.{ArenaView, Guarantee, content_of}, Given.{GivesOutBeside, step_of_idle}}
use Rattle.mt_operation.specs.{declared.phase.Phase.Phase, declared.phase.Phase.TheVariants.{Enter, Check, Hop}, declared.operation.Operation.Operation, Phases.{Kind, row}}
use Rattle.mt_operation.specs.Operations.{OperationView}
use Rattle.mt_descent.specs.KeptBack.{RetiresAfter, GivesOutBefore}
use Rattle.mt_layer.specs.KeptLayers.{GivesNoneInto}
use Rattle.mt_state.specs.Views.{StateView, Core, op_at}
use Rattle.mt_descent.specs.Remembered as walks
use Rattle.mt_scan.specs.Remembered as scans
use Rattle.mt_operation.specs.Phases as kinds

-- the state with blank nodes in the places that a step is to give out
abbrev pub with_given : Core → ArenaView → Core
with_given c mid = record c { arena = mid }

-- of an operation that holds nothing no place is given out that its walk remembers, or what it has scanned
abbrev pub SparesOneWalk : ArenaView → ArenaView → Operation → Type 0
SparesOneWalk old mid op = walks.IsGivenElsewhere old mid op.walk.phase op.walk

abbrev pub SparesScan : Phase → ArenaView → ArenaView → Operation → Type 0
SparesScan Check old mid op = scans.IsGivenElsewhere old mid Check op.walk op.scan.stop
SparesScan Hop old mid op = scans.IsGivenElsewhere old mid Hop op.walk op.scan.stop
SparesScan _ old mid op = SparesOneWalk old mid op

abbrev pub SparesWalk : Kind → Phase → ArenaView → ArenaView → Operation → Type 0
SparesWalk kinds.Descends p old mid op = SparesOneWalk old mid op
SparesWalk kinds.Locks p old mid op = SparesOneWalk old mid op
SparesWalk kinds.Reads p old mid op = SparesOneWalk old mid op
SparesWalk kinds.Scans p old mid op = SparesScan p old mid op
SparesWalk _ p old mid op = Unit {0}

-- nor one that it has to do with otherwise: the trees of the nodes that it holds, a tree that it makes, and the one whose link it goes to take out
pub record SparesOperation (old mid : ArenaView) (o : ℕ) (op : Operation) : Type 0 where
  pub beside : GivesOutBeside o old mid
  pub making : GivesNoneInto o old mid
  pub contents : content_of mid ≡ content_of old
  pub walk : SparesWalk (row op.walk.phase).kind op.walk.phase old mid op
  pub enter : op.walk.phase ≡ Enter → tree_at mid.trees op.walk.place.tree ≡ tree_at old.trees op.walk.place.tree
  pub cleans : (t : ℕ) → op.removal.cleans ≡ Some t → tree_at mid.trees t ≡ tree_at old.trees t

-- What is given out before a step goes on: places alone that were taken out at each open operation's birth or before it, so by the step `least` at most. The
-- lists of what is out lose some, and the contents stand.
pub record GivesPlaces (v : StateView) (mid : ArenaView) : Type 0 where
  pub least : ℕ
  pub before : (q : ℕ) (op : OperationView) → op_at v.table q ≡ Some op → least ≤ op.birth
  pub given : GivesOutBefore least v.arena mid
  pub contents : content_of mid ≡ content_of v.arena
  pub lists : (birth : ℕ) → birth ≤ v.steps → RetiresAfter birth v.arena.retired mid.retired

-- the idle places of a node's kind
abbrev pub idle_of : NodeView → RetiredPlaces → List Retired
idle_of n gone = if n.version.border then gone.borders else gone.interiors

-- of each place of the list: an open operation was begun before the step that took it out
abbrev pub AreAllKeptBack : StateView → List Retired → Type 0
AreAllKeptBack v gone = (i : ℕ) → i < length gone → ¬ ((q : ℕ) (op : OperationView) → op_at v.table q ≡ Some op → step_of_idle gone i ≤ op.birth)

-- a new place is made only if all idle ones of its kind are kept back
pub record MakesLast (v : StateView) (new : ArenaView) : Type 0 where
  pub nodes : (k : ℕ) → length v.arena.nodes ≤ k → k < length new.nodes → AreAllKeptBack v (idle_of (at new k) v.arena.retired)
  pub trees : length v.arena.trees < length new.trees → AreAllKeptBack v v.arena.retired.trees

-- How a step of operation o changes the arena. First places are given out, and blank nodes come there. From there it goes on as the arena allows, and what it
-- takes out is listed after the birth of each operation.
pub record ChangesArena (v : StateView) (o : ℕ) (new : ArenaView) : Type 0 where
  pub mid : ArenaView
  pub gives : GivesPlaces v mid
  pub step : Guarantee o mid new
  pub retires : (birth : ℕ) → birth ≤ v.steps → RetiresAfter birth mid.retired new.retired
  pub last : MakesLast v new
