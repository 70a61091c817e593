-- What a state keeps, and how one operation ends that is run by itself.
use Rattle.std.specs.Prelude.{◌≡◌, ◌≢◌, ℕ, ◌^◌, ◌≤◌, ◌⊎◌, false, Some, None, Result, Ok, Err, length}
use Rattle.mt_rows.specs.{declared.reply.Reply.Reply, declared.reply.Reply.TheVariants.NoMemory}
use Rattle.mt_operation.specs.{declared.outcome.Outcome.Outcome, Operations.OperationView, Phases.is_unplaced}
use Rattle.mt_state.specs.{Views.{StateView, contents_of, op_at, granted}, Steps.change_in, Promises.{HasStep, IsPlacedToGrow}}
use Rattle.mt_core.specs.Alone.{IsAlone, IsRun, MayHaveRun}
use Rattle.mt_alone.specs.{declared.runs.Unfinished.Unfinished, declared.runs.Unfinished.TheVariants.{Spent, Stuck}}

-- what stays of a state: no number falls, no node and no tree goes, and logs, tenants and quotas are the same
pub record Keeps (old new : StateView) : Type 0 where
  pub steps : old.steps ≤ new.steps
  pub nodes : length old.arena.nodes ≤ length new.arena.nodes
  pub trees : length old.arena.trees ≤ length new.arena.trees
  pub logs : new.logs ≡ old.logs
  pub tenants : (t : ℕ) → granted new t ≡ granted old t

-- no operation is open
abbrev pub IsIdle : StateView → Type 0
IsIdle v = (o : ℕ) → op_at v.table o ≡ None

-- an operation has a step left, and no other one is open
pub record IsOnly (v : StateView) (o : ℕ) : Type 0 where
  pub unfinished : HasStep v o
  pub others : (q : ℕ) → q ≢ o → op_at v.table q ≡ None

-- an operation has its outcome, and places nothing any more; a change that it tells of was made
pub record IsSettled (v : StateView) (o : ℕ) : Type 0 where
  pub op : OperationView
  pub there : op_at v.table o ≡ Some op
  pub placed : is_unplaced op.phase ≡ false
  pub told : Outcome
  pub has : op.outcome ≡ Some told
  pub made : (m : ℕ) → change_in op ≡ Some m → m ≤ v.steps

-- A run of the only operation that is open ends: its answer is taken, and none is open; or it is the only one as before, since all numbers are given, or
-- since there is no memory for a node when it has placed its change.
abbrev pub EndsRun : StateView → ℕ → Result Reply Unfinished → Type 0
EndsRun new o (Ok reply) = IsIdle new
EndsRun new o (Err (Spent ticket)) = (ticket.id ≡ o) × IsOnly new o × (new.steps ≡ 2 ^ 59)
EndsRun new o (Err (Stuck ticket)) = (ticket.id ≡ o) × IsOnly new o × IsSettled new o × IsPlacedToGrow new o

-- What a run tells of an operation that is alone from its first step on: its reply and its change, by the number of one of its steps, or that no memory was
-- there and nothing changed; one that isn't finished has made its change, or none.
abbrev pub TellsRun : StateView → StateView → OperationView → Result Reply Unfinished → Type 0
TellsRun old new op (Ok reply) = ((reply ≡ NoMemory) × (contents_of new ≡ contents_of old)) ⊎ ((number : ℕ) × IsRun old new op number reply)
TellsRun old new op (Err unfinished) = MayHaveRun old new op

-- an operation that was settled is so after a run that didn't finish it
abbrev pub StaysSettled : StateView → ℕ → Result Reply Unfinished → Type 0
StaysSettled new o (Ok reply) = Unit {0}
StaysSettled new o (Err unfinished) = IsSettled new o

-- a run of the only operation that is open; of one that places nothing any more it changes nothing
pub record Finishes (old new : StateView) (o : ℕ) (result : Result Reply Unfinished) : Type 0 where
  pub keeps : Keeps old new
  pub ends : EndsRun new o result
  pub alone : (op : OperationView) → IsAlone old o op → TellsRun old new op result
  pub stands : IsSettled old o → contents_of new ≡ contents_of old
  pub settled : IsSettled old o → StaysSettled new o result
