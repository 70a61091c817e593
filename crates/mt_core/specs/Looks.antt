-- What the steps make of an operation that holds nothing: a step down, a get's search, load and confirmation, and the steps of a scan.
use Rattle.std.specs.Prelude.{◌≡◌, ◌≢◌, ℕ, ◌+◌, ◌≤◌, ◌⊎◌, true, List, Option, Some, None}
use Rattle.mt_rows.specs.{Stamps.Stamped, Commands.HasColumns, Maps.is_get, Limits.ArePairs, declared.reply.Reply.TheVariants.{Absent, NoMemory, Pairs}}
use Rattle.mt_border.specs.declared.entry.Find.{Find}
use Rattle.mt_version.specs.Changes.{IsStable}
use Rattle.mt_arena.specs.{Arena.ArenaView, Accesses.at}
use Rattle.mt_operation.specs.declared.phase.Phase.{Phase}
use Rattle.mt_operation.specs.declared.phase.Phase.TheVariants.{Enter, Pick, Child, Verify, Forward, Search, Load, Confirm, Done, Snap, Check, Hop}
use Rattle.mt_operation.specs.{declared.walk.Walk.Walk, declared.outcome.Outcome.Outcome, declared.operation.Operation.Operation}
use Rattle.mt_operation.specs.{declared.removal.Removal.Removal, declared.task.Task.Task, declared.scan.Scan.Scan, Tasks.ask}
use Rattle.mt_operation.specs.{Operations.{SplitsView, splits_of, scan_of}, Phases.IsDescent}
use Rattle.mt_table.specs.{declared.steps.Made.Made, declared.steps.Made.TheVariants.{Step, Blocked, NoMemory as NoMemoryMade, Nothing}}
use Rattle.mt_descent.specs.{Pasts.{Past, IsNow, AreStamped}, KeptWalks.{IsKept, IsAtBorder, IsAtLoad, IsAtConfirm}}
use Rattle.mt_descent.specs.WalkMoves.{Continues, FindsIn, Loads, Confirms, after_search}
use Rattle.mt_held.specs.Moves.{walk_done}
use Rattle.mt_scan.specs.{Snaps.{prefix_in, AreSettled, IsSnap}, Checks.{Asks, MayCheck, IsUnchanged, IsCheck}, Hops.{IsAtCheck, KeptHop, KeptScan, HopsTo}}
use Rattle.mt_state.specs.{Calls.IsStillScan, Promises.IsInTheWay, Notes.Says, Ways.{Descends, ShowsTaken}, Phases.{ScanStep, LeadsTo}}
use Rattle.mt_core.specs.Budgets.{Budget, IsBudget, WalksBy}

-- what a step makes of an operation that holds nothing, where nobody is in its way; else it is as it was
abbrev pub Looks : ArenaView → (Operation → Operation → Type 0) → Operation → Made → Operation → Type 0
Looks v Tells op Step after = Tells op after
Looks v Tells op (Blocked holder) after = IsInTheWay v op.walk.phase op.walk (splits_of op.splits) op.removal (scan_of op.task op.scan) holder × (after ≡ op)
Looks v Tells op NoMemoryMade after = ⊥
Looks v Tells op Nothing after = ⊥

-- an operation has walked on, and has this outcome or none; all else of it is as it was
abbrev pub led_to : Operation → Walk → Option Outcome → Operation
led_to op walk told = record op { walk = walk; outcome = told }

-- an operation goes down
pub record MayDescend (v : ArenaView) (op : Operation) : Type 0 where
  pub phase : IsDescent op.walk.phase
  pub kept : (past : Past) × IsKept v past op.task.key None op.walk

-- it is about to search, to load for a get, or to confirm
pub record MaySearch (v : ArenaView) (op : Operation) : Type 0 where
  pub phase : op.walk.phase ≡ Search
  pub kept : IsAtBorder v op.task.key op.walk

pub record MayLoad (v : ArenaView) (op : Operation) : Type 0 where
  pub phase : op.walk.phase ≡ Load
  pub get : is_get (ask op.task) ≡ true
  pub columns : HasColumns (ask op.task)
  pub kept : (past : Past) × IsAtLoad v past op.task.key op.walk

pub record MayConfirm (v : ArenaView) (op : Operation) : Type 0 where
  pub phase : op.walk.phase ≡ Confirm
  pub kept : IsAtBorder v op.task.key op.walk

-- a step down: the walk goes on where the table of phases says, and comes nearer
pub record TellsDescended (v : ArenaView) (op after : Operation) : Type 0 where
  pub leads : (o step : ℕ) (told : Option Outcome) (s : SplitsView) (rem : Removal) (g : ScanStep) → LeadsTo op.walk.phase v v o step op.task.key told s rem g op.walk after.walk
  pub goes : Descends op.walk after.walk
  pub nears : (budget : Budget) → IsBudget v budget → (made : ℕ) → WalksBy op.walk.phase budget made v op.walk → WalksBy after.walk.phase budget (made + 1) v after.walk
  pub kept : (past : Past) → IsKept v past op.task.key None after.walk
  pub others : after ≡ led_to op after.walk op.outcome

-- a search by the step of this number: where it goes on to confirm, the key is missing, and so it notes; else it answers what it did
pub record TellsSearched (v : ArenaView) (step : ℕ) (op after : Operation) : Type 0 where
  pub found : (f : Find) × FindsIn (at v op.walk.place.node) op.task.key op.walk.layer f × (after.walk ≡ after_search f op.walk step)
  pub same : Continues op.walk after.walk
  pub kept : (past : Past) (row : Option Stamped) → AreStamped past v → IsNow past step v → op.walk.first ≤ step → IsKept v past op.task.key row after.walk
  pub missing : after.walk.phase ≡ Confirm → after ≡ led_to op after.walk (Some (record { reply = Absent; at = step }))
  pub there : after.walk.phase ≢ Confirm → after ≡ led_to op after.walk op.outcome

-- a load by the step of this number: what it took is shown, and is to be confirmed; or a row was there, and no memory to show it
pub record TellsLoaded (v : ArenaView) (step : ℕ) (op after : Operation) : Type 0 where
  pub row : Option Stamped
  pub walk : Walk
  pub loads : Loads (at v op.walk.place.node) op.walk walk row
  pub others : after ≡ led_to op after.walk after.outcome
  pub told : ((after.walk ≡ walk) × ShowsTaken op row walk after.outcome) ⊎ ((after.walk ≡ record walk { phase = Done }) × (row ≢ None) × Says after.outcome NoMemory step)

-- a confirmation: what was noted is answered where the get is done, and is forgotten where it goes on
pub record TellsConfirmed (v : ArenaView) (op after : Operation) : Type 0 where
  pub stable : IsStable (at v op.walk.place.node).version
  pub confirms : Confirms (at v op.walk.place.node) op.walk after.walk
  pub same : Continues op.walk after.walk
  pub kept : (past : Past) (row : Option Stamped) → IsAtConfirm v past op.task.key row op.walk → IsKept v past op.task.key row after.walk
  pub done : after.walk.phase ≡ Done → after ≡ led_to op after.walk op.outcome
  pub goes_on : after.walk.phase ≢ Done → after ≡ led_to op after.walk None

-- a scan is about to read its border node; to compare the node's version, with fewer pairs than it was asked for; or to go on behind what it has kept
pub record MaySnap (v : ArenaView) (op : Operation) : Type 0 where
  pub phase : op.walk.phase ≡ Snap
  pub kept : IsAtBorder v op.task.key op.walk

pub record MayCompare (v : ArenaView) (op : Operation) : Type 0 where
  pub phase : op.walk.phase ≡ Check
  pub kept : IsAtCheck v op.task.key op.walk op.scan.stop
  pub asked : MayCheck op.task op.scan.collected.items
  pub shows : (task : Task) (w : Walk) (scan : Scan) (count : ℕ) (columns : List ℕ) → Asks op.task count columns
      → IsCheck (at v op.walk.place.node) (prefix_in v op.walk) count columns op.walk w (scan_of op.task op.scan) (scan_of task scan)
      → IsStillScan op.task task → Continues op.walk w → w.phase ≡ Done → ArePairs scan.collected.items

pub record MayHop (v : ArenaView) (op : Operation) : Type 0 where
  pub phase : op.walk.phase ≡ Hop
  pub kept : KeptHop v op.task.key op.walk op.scan.stop

-- memory stopped a scan in the step of this number
pub record IsStopped (step : ℕ) (op after : Operation) : Type 0 where
  pub scan : Scan
  pub is : after ≡ record op { walk = walk_done op.walk; outcome = Some (record { reply = NoMemory; at = step }); scan = scan }

-- a scan has seen the pairs of its border node; or memory stopped it
pub record Sees (v : ArenaView) (op after : Operation) : Type 0 where
  pub sees : IsSnap v op.walk after.walk (scan_of op.task op.scan) (scan_of op.task after.scan)
  pub kept : IsAtCheck v op.task.key after.walk after.scan.stop
  pub same : Continues op.walk after.walk
  pub others : after ≡ record op { walk = after.walk; scan = after.scan }

abbrev pub TellsSnapped : ArenaView → ℕ → Operation → Operation → Type 0
TellsSnapped v step op after = Sees v op after ⊎ (AreSettled (at v op.walk.place.node) (scan_of op.task op.scan) op.walk.layer × IsStopped step op after)

-- it has kept or dropped what it has seen, with this task and this of what it remembers: it goes on with both, or is done and shows what it has collected
pub record Compares (v : ArenaView) (step : ℕ) (op after : Operation) : Type 0 where
  pub task : Task
  pub scan : Scan
  pub checks : (count : ℕ) (columns : List ℕ) → Asks op.task count columns
      → IsCheck (at v op.walk.place.node) (prefix_in v op.walk) count columns op.walk after.walk (scan_of op.task op.scan) (scan_of task scan)
  pub still : IsStillScan op.task task
  pub same : Continues op.walk after.walk
  pub kept : after.walk.phase ≢ Done → (past : Past) (row : Option Stamped) → KeptScan after.walk.phase v past task.key row after.walk scan.stop
  pub goes_on : after.walk.phase ≢ Done → after ≡ record op { walk = after.walk; task = task; scan = scan }
  pub ends : after.walk.phase ≡ Done
      → after ≡ record op { walk = after.walk; task = task; outcome = Some (record { reply = Pairs scan.collected.items; at = step }); scan = after.scan }

abbrev pub TellsCompared : ArenaView → ℕ → Operation → Operation → Type 0
TellsCompared v step op after = Compares v step op after ⊎ (IsUnchanged (at v op.walk.place.node) op.walk × IsStopped step op after)

-- it has come to where it goes on
pub record TellsHopped (v : ArenaView) (op after : Operation) : Type 0 where
  pub hops : HopsTo v op.scan.stop op.walk after.walk
  pub same : Continues op.walk after.walk
  pub kept : (past : Past) → IsKept v past op.task.key None after.walk
  pub others : after ≡ led_to op after.walk op.outcome

-- an operation may make the next step by a look, by its phase, or that step is none
abbrev pub MayLook : Phase → ArenaView → Operation → Type 0
MayLook Enter v op = MayDescend v op
MayLook Pick v op = MayDescend v op
MayLook Child v op = MayDescend v op
MayLook Verify v op = MayDescend v op
MayLook Forward v op = MayDescend v op
MayLook Search v op = MaySearch v op
MayLook Load v op = MayLoad v op
MayLook Confirm v op = MayConfirm v op
MayLook Snap v op = MaySnap v op
MayLook Check v op = MayCompare v op
MayLook Hop v op = MayHop v op
MayLook _ v op = Unit {0}

-- what the step of this number makes of it then; nothing, where it is none
abbrev pub LooksAt : Phase → ArenaView → ℕ → Operation → Made → Operation → Type 0
LooksAt Enter v step op made after = Looks v (TellsDescended v) op made after
LooksAt Pick v step op made after = Looks v (TellsDescended v) op made after
LooksAt Child v step op made after = Looks v (TellsDescended v) op made after
LooksAt Verify v step op made after = Looks v (TellsDescended v) op made after
LooksAt Forward v step op made after = Looks v (TellsDescended v) op made after
LooksAt Search v step op made after = Looks v (TellsSearched v step) op made after
LooksAt Load v step op made after = Looks v (TellsLoaded v step) op made after
LooksAt Confirm v step op made after = Looks v (TellsConfirmed v) op made after
LooksAt Snap v step op made after = Looks v (TellsSnapped v step) op made after
LooksAt Check v step op made after = Looks v (TellsCompared v step) op made after
LooksAt Hop v step op made after = Looks v (TellsHopped v) op made after
LooksAt _ v step op made after = (made ≡ Nothing) × (after ≡ op)
