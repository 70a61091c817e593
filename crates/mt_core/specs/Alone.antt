-- A run of steps of one operation, and how it ends where no other operation is in its way.
use Rattle.std.specs.Prelude.{◌≡◌, ◌≢◌, ℕ, zero, suc, ◌+◌, ◌*◌, ◌^◌, ◌<◌, ◌≤◌, ◌⊎◌, Bool, true, false, Some, None, length}
use Rattle.mt_rows.specs.{declared.command.Command.Command, declared.reply.Reply.Reply, declared.reply.Reply.TheVariants.NoMemory, Maps.{reply_of, is_scan}}
use Rattle.mt_rows.specs.Tenants.{tenant_map}
use Rattle.mt_runs.specs.Placings.{maps_after_one}
use Rattle.mt_arena.specs.{Arena.live_count, Accesses.at}
use Rattle.mt_operation.specs.{declared.outcome.Outcome.Outcome, declared.phase.Phase.Phase, declared.phase.Phase.TheVariants.{Enter, Done}}
use Rattle.mt_operation.specs.{Operations.OperationView, Phases.{is_done, IsToGrow}}
use Rattle.mt_state.specs.{declared.moves.Move.Move, declared.moves.Move.TheVariants.{Moved, NoMemory as NoMemoryMove, Done as DoneMove, Spent}}
use Rattle.mt_state.specs.{Views.{StateView, contents_of, op_at, quota_of}, Steps.IsSameAsked, Promises.{IsStep, Tells}}
use Rattle.mt_core.specs.ScanPoints.{live_trees}

-- so many steps of operation o were made, one after the other, none of which was its last
abbrev pub IsChain : ℕ → StateView → StateView → ℕ → Type 0
IsChain zero old new o = new ≡ old
IsChain (suc made) old new o = (mid : StateView) × IsChain made old mid o × IsStep mid new o false

-- what a run does, whatever the state and the operation: it makes steps till one answers something else than that it has moved
pub record Runs (old new : StateView) (o : ℕ) (answer : Move) : Type 0 where
  pub made : ℕ
  pub mid : StateView
  pub chain : IsChain made old mid o
  pub tells : Tells mid new o answer
  pub ends : answer ≢ Moved

-- how many steps an operation makes at most that is alone among so many live nodes and trees, by whether it scans; and one of this command
abbrev pub most_among : Bool → ℕ → ℕ → ℕ
most_among false nodes trees = 256 * (nodes + 64)
most_among true nodes trees = 256 * (nodes + 64) * (trees + 1)

abbrev pub most_steps : StateView → Command → ℕ
most_steps v command = most_among (is_scan command) (live_count v.arena.nodes) (live_trees v.arena.trees)

-- an operation that has not made a step, in a state in which nobody holds a node
pub record IsAlone (v : StateView) (o : ℕ) (op : OperationView) : Type 0 where
  pub there : op_at v.table o ≡ Some op
  pub first : op.first ≡ 0
  pub enters : op.phase ≡ Enter
  pub free : (k : ℕ) → k < length v.arena.nodes → (at v.arena k).holder ≡ None

-- an unfinished operation, at whatever phase, also one that was disturbed before, while nobody else holds a node
pub record IsUndisturbed (v : StateView) (o : ℕ) (op : OperationView) : Type 0 where
  pub there : op_at v.table o ≡ Some op
  pub unfinished : is_done op.phase ≡ false
  pub free : (k q : ℕ) → k < length v.arena.nodes → (at v.arena k).holder ≡ Some q → q ≡ o

-- The reply is that of the operation's command on its tenant's map. The maps are those that the command leaves with this number, which is that of a step of
-- the run.
pub record IsRun (old new : StateView) (op : OperationView) (number : ℕ) (reply : Reply) : Type 0 where
  pub since : old.steps < number
  pub upto : number ≤ new.steps
  pub told : reply ≡ reply_of (quota_of old op.tenant) op.command (tenant_map op.tenant (contents_of old))
  pub makes : (t : ℕ)
      → tenant_map t (contents_of new) ≡ maps_after_one (quota_of old) number (Some (record { tenant = op.tenant; command = op.command })) (λ u. tenant_map u (contents_of old)) t

-- the pairs are as they were, or the maps are as the operation's command leaves them
abbrev pub MayHaveRun : StateView → StateView → OperationView → Type 0
MayHaveRun old new op = (contents_of new ≡ contents_of old) ⊎ ((reply : Reply) × (number : ℕ) × IsRun old new op number reply)

-- the operation's outcome is what its command answers and makes; or it was told that there is no memory, and no pair has changed
pub record HasRun (old new : StateView) (op after : OperationView) : Type 0 where
  pub told : Outcome
  pub has : after.outcome ≡ Some told
  pub outcome : ((told.reply ≡ NoMemory) × (contents_of new ≡ contents_of old)) ⊎ IsRun old new op told.at told.reply

-- what a run has made that ends with this answer; one that runs out of numbers may have no outcome yet
abbrev pub HasRunTo : Move → StateView → StateView → OperationView → OperationView → Type 0
HasRunTo Spent old new op after = MayHaveRun old new op
HasRunTo answer old new op after = HasRun old new op after

-- It is done; or it has placed its change and there is no memory for a node. Or the last number is given, which is 2 to the 59th, and comes before the last
-- one that a whole run may take.
abbrev pub EndsAt : Move → ℕ → ℕ → Phase → Type 0
EndsAt DoneMove last most phase = phase ≡ Done
EndsAt NoMemoryMove last most phase = IsToGrow phase
EndsAt Spent last most phase = (last ≡ 2 ^ 59) × (last < most)
EndsAt answer last most phase = ⊥

-- how the run ends of an operation that is alone: with what its command answers and makes, or for want of memory with nothing changed
pub record EndsAlone (old new : StateView) (o : ℕ) (op : OperationView) (answer : Move) : Type 0 where
  pub few : new.steps ≤ old.steps + most_steps old op.command
  pub after : OperationView
  pub there : op_at new.table o ≡ Some after
  pub asked : IsSameAsked op after
  pub ends : EndsAt answer new.steps (old.steps + most_steps old op.command) after.phase
  pub makes : HasRunTo answer old new op after

-- How the run ends of an operation that nobody disturbs from now on: after so few steps it is done, or there is no memory for a node that its split needs, or
-- no number is left.
pub record EndsSoon (old new : StateView) (o : ℕ) (op : OperationView) (answer : Move) : Type 0 where
  pub few : new.steps ≤ old.steps + most_steps old op.command
  pub after : OperationView
  pub there : op_at new.table o ≡ Some after
  pub ends : EndsAt answer new.steps (old.steps + most_steps old op.command) after.phase
