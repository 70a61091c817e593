-- What a step of one operation has to bring, so that the invariant stays and the step may be told.
use Rattle.std.specs.Prelude.{◌≡◌, ℕ, ◌+◌, ◌<◌, ◌⊎◌, false, length, Some, slice_set}
use Rattle.mt_arena.specs.{Given.AreOutUpTo, Accesses.at}
use Rattle.mt_operation.specs.{declared.operation.Operation.Operation, Operations.view_of, Phases.is_done, Tables.{op_at as operation_at}}
use Rattle.mt_state.specs.{Views.{Core, shown}, Steps.HasMoved, Notes.Notes, Promises.{IsQuiet, IsPlacing}, Touches.Touches, KeptOperations.{IsKeptOf, KeepsScan}, KeptBack.{ArenaFacts, IsKeptBack}}
use Rattle.mt_state.specs.{Growth.MakesFew, Invariant.{IsTape, AreStamps, AreVersions, HoldsAt, AreCounted, DeletedAreEmpty, StateGuarantee, one_if_prepared}}

-- an operation is asked the same: nothing of its task has changed, but for the key of a scan
abbrev pub IsStillAsked : Operation → Operation → Type 0
IsStillAsked before after = after.task ≡ record before.task { key = after.task.key }

-- what it has scanned is as it was; or it is kept of it, where a step is left
abbrev pub BringsScan : Core → Operation → Operation → Type 0
BringsScan new before after =
    ((after.task ≡ before.task) × (after.scan ≡ before.scan)) ⊎ (is_done after.walk.phase ≡ false → KeepsScan new after)

-- What a step of operation o brings of its own. The rest of the invariant follows for all others.
pub record IsMove (old new : Core) (o : ℕ) (before after : Operation) : Type 0 where
  pub there : operation_at old.table o ≡ Some before
  pub unfinished : is_done before.walk.phase ≡ false
  pub asked : IsStillAsked before after
  pub scan : BringsScan new before after
  pub table : new.table ≡ slice_set old.table o (Some after)
  pub number : new.steps ≡ old.steps + 1
  pub answers : new.answers ≡ old.answers
  pub leaves : StateGuarantee old new o
  pub tape : IsTape new
  pub stamps : AreStamps new
  pub versions : AreVersions new
  pub held : (k : ℕ) → k < length new.arena.nodes → (at new.arena k).holder ≡ Some o → HoldsAt after.walk.phase after k
  pub counts : AreCounted new
  pub kept : IsKeptOf new o after
  pub reserved : new.tape.reserved + one_if_prepared (Some before) ≡ old.tape.reserved + one_if_prepared (Some after)
  pub deleted : DeletedAreEmpty new.arena
  pub late : AreOutUpTo new.steps new.arena.retired
  pub remembered : ArenaFacts old.arena → ArenaFacts new.arena → IsKeptBack new.arena o after

-- what a step tells, beside what it brings
pub record IsTold (old new : Core) (o : ℕ) (before after : Operation) : Type 0 where
  pub logs : new.logs ≡ old.logs
  pub moves : HasMoved (view_of before) (view_of after) (old.steps + 1)
  pub notes : Notes (shown old) (view_of before) before.walk.phase after.walk.phase after.outcome
  pub touches : Touches (view_of before) o old.arena new.arena
  pub effect : IsQuiet (shown old) (shown new) (view_of before) (view_of after) ⊎ IsPlacing (shown old) (shown new) (view_of before) (view_of after)
  pub makes : MakesFew old.arena new.arena
