-- What ties the story of a life to its state, in which operations that are finished may wait for their answers to be taken.
use Rattle.std.specs.{Prelude.{◌≡◌, ◌≢◌, ℕ, ◌≤◌, ◌⊎◌, false, Some, None}, List.All}
use Rattle.mt_runs.specs.{declared.event.Answer.Answer, Runs.{Story, last_step, owner, Finished}, Placings.{Quotas, Maps}, Right.Right}
use Rattle.mt_operation.specs.{Operations.OperationView, Phases.is_done}
use Rattle.mt_state.specs.{Views.{StateView, op_at, map_of, changed_at, quota_of}, Begins.IsAnswerOf, Histories.{Names, AreNamed, StoryTells}}

-- it has made its last step, with this answer, as the story tells
pub record HasEnded (story : Story) (name : ℕ) (op : OperationView) : Type 0 where
  pub answer : Answer
  pub told : IsAnswerOf op answer
  pub finished : Finished story name answer

-- what the story tells of an operation by its name, if a step of it is left, and if none is
abbrev pub Knows : Story → StateView → ℕ → OperationView → Type 0
Knows story v name op = ((is_done op.phase ≡ false) × StoryTells story v name op) ⊎ HasEnded story name op

-- A right story led to this state, as `History` says of one in which each answer is taken with the last step.
pub record Remembers (quotas : Quotas) (first : Maps) (story : Story) (names : Names) (v : StateView) : Type 0 where
  pub right : Right quotas first story (map_of v) (changed_at v)
  pub quota : (t : ℕ) → quota_of v t ≡ quotas t
  pub count : last_step story ≡ v.steps
  pub made : All (λ e. e.step ≤ v.steps) v.tape.entries
  pub told : (o n : ℕ) → names o ≡ Some (Some n) → (op : OperationView) × (op_at v.table n ≡ Some op) × Knows story v o op
  pub apart : (o p n : ℕ) → names o ≡ Some (Some n) → names p ≡ Some (Some n) → o ≡ p
  pub all : AreNamed names v.table
  pub free : (o : ℕ) → names o ≡ None → story.asked o ≡ None
  pub owners : (m o : ℕ) → owner story m ≡ Some o → names o ≢ None
