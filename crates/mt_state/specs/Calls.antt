-- What the calls of the reading phases and of a scan's ensure of a state's operation, and when a step is lawful.
use Rattle.std.specs.Prelude.{◌≡◌, ℕ, ◌+◌, ◌≤◌, Bool, Option}
use Rattle.mt_slices.specs.Keys.{IsStoredKey}
use Rattle.mt_rows.specs.Stamps.{Stamped}
use Rattle.mt_border.specs.declared.entry.Find.{Find}
use Rattle.mt_arena.specs.Accesses.{at}
use Rattle.mt_operation.specs.{declared.task.Task.Task, declared.walk.Walk.Walk, declared.operation.Operation.Operation}
use Rattle.mt_descent.specs.{Pasts.{Past, IsNow, AreStamped}, KeptWalks.{IsAtLoad, IsAtConfirm, IsKept}, WalkMoves.{Continues, FindsIn, after_search, Loads, Confirms}}
use Rattle.mt_state.specs.{Views.{Core, shown}, Promises.IsStep, Invariant.StateInvariant, KeptBack.ArenaFacts}

-- a step of operation o that keeps the invariant, as the arena keeps its own, and does what a step may do
pub record IsLawful (old new : Core) (o : ℕ) (done : Bool) : Type 0 where
  pub invariant : ArenaFacts old.arena → ArenaFacts new.arena → StateInvariant new
  pub step : IsStep (shown old) (shown new) o done

-- the walk after a search by the next step
pub record Searches (c : Core) (op : Operation) (w : Walk) (found : Find) : Type 0 where
  pub finds : FindsIn (at c.arena op.walk.place.node) op.task.key op.walk.layer found
  pub is : w ≡ after_search found op.walk (c.steps + 1)
  pub kept : (past : Past) (row : Option Stamped) → AreStamped past c.arena → IsNow past (c.steps + 1) c.arena → op.walk.first ≤ c.steps + 1 → IsKept c.arena past op.task.key row w

-- the walk after a load, and the row that it took
pub record Takes (c : Core) (op : Operation) (w : Walk) (row : Option Stamped) : Type 0 where
  pub loads : Loads (at c.arena op.walk.place.node) op.walk w row
  pub same : Continues op.walk w
  pub kept : (past : Past) → IsAtLoad c.arena past op.task.key op.walk → IsKept c.arena past op.task.key row w

-- the walk after the version was compared
pub record Compares (c : Core) (op : Operation) (w : Walk) : Type 0 where
  pub same : Continues op.walk w
  pub confirms : Confirms (at c.arena op.walk.place.node) op.walk w
  pub kept : (past : Past) (row : Option Stamped) → IsAtConfirm c.arena past op.task.key row op.walk → IsKept c.arena past op.task.key row w

-- a scan is asked the same, from a fence that is a stored key
pub record IsStillScan (before after : Task) : Type 0 where
  pub asked : after ≡ record before { key = after.key }
  pub stored : IsStoredKey after.key
