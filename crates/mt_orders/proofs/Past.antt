-- What is kept of a history: the maps that it went through, also those that its last state has given up.
use Rattle.std.proofs.Common.{◌≡◌, ◌≢◌, ℕ, ◌<◌, ◌≤◌, Bool, true, false, Some, None}
use Rattle.mt_rows.specs.Maps.{Map}
use Rattle.mt_runs.specs.{declared.event.Answer.Answer, Runs.{Story, last_step, owner, Finished, IsFirst, IsLast}, Placings.{Quotas, Maps}, Right.Right}
use Rattle.mt_operation.specs.{Operations.OperationView, Phases.{is_done, is_unplaced}}
use Rattle.mt_state.specs.{Views.{StateView, op_at, map_of, changed_at, quota_of}, Steps.change_in, Begins.IsAnswerOf}
use Rattle.mt_orders.specs.Stories.{Ids}

-- What a story tells of an operation by its name: its command, its first and its last step, or that it has made none. It has no answer while it has a step left, and
-- then its own. The change which it remembers, if any, is the one that it made. It remembers none as long as it may place one.
pub record Knows (story : Story) (changed : ℕ → Bool) (name : ℕ) (op : OperationView) : Type 0 where
  pub asked_so : story.asked name ≡ Some (record { tenant = op.tenant; command = op.command })
  pub first : 0 < op.first → IsFirst story name op.first
  pub last : 0 < op.last → IsLast story name op.last
  pub still : op.first ≡ 0 → (m : ℕ) → owner story m ≢ Some name
  pub unfinished : is_done op.phase ≡ false → (a : Answer) → Finished story name a → ⊥
  pub ended : is_done op.phase ≡ true → (a : Answer) × IsAnswerOf op a × Finished story name a
  pub changes : (m : ℕ) → changed m ≡ true → owner story m ≡ Some name → change_in op ≡ Some m
  pub own : (m : ℕ) → change_in op ≡ Some m → owner story m ≡ Some name
  pub placed : (m : ℕ) → change_in op ≡ Some m → is_unplaced op.phase ≡ false

-- A right story led to this state, by the maps that it went through and the steps that changed one. From the state's floor on these are the state's. Each operation that is
-- open has its name, which no other id has, and which was given before this place.
pub record Remembers (quotas : Quotas) (first : Maps) (story : Story) (place : ℕ) (ids : Ids) (v : StateView) : Type 0 where
  pub map_at : ℕ → ℕ → Map
  pub changed : ℕ → Bool
  pub right : Right quotas first story map_at changed
  pub maps : (t m : ℕ) → v.tape.floor ≤ m → map_at t m ≡ map_of v t m
  pub changes : (m : ℕ) → v.tape.floor < m → changed m ≡ changed_at v m
  pub quota : (t : ℕ) → quota_of v t ≡ quotas t
  pub count : last_step story ≡ v.steps
  pub known : (n : ℕ) (op : OperationView) → op_at v.table n ≡ Some op → (name : ℕ) × (ids n ≡ Some name) × Knows story changed name op
  pub apart : (n m name : ℕ) → ids n ≡ Some name → ids m ≡ Some name → n ≡ m
  pub given : (n name : ℕ) → ids n ≡ Some name → name < place
  pub free : (name : ℕ) → place ≤ name → story.asked name ≡ None
  pub owners : (m name : ℕ) → owner story m ≡ Some name → name < place
