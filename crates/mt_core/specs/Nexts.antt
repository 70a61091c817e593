-- The operation that is to make a step, by its phase.
use Rattle.std.specs.Prelude.{◌≡◌, ℕ, Some}
use Rattle.mt_operation.specs.{declared.phase.Phase.Phase, declared.phase.Phase.TheVariants.Done, declared.operation.Operation.Operation}
use Rattle.mt_operation.specs.Tables.{op_at as operation_at}
use Rattle.mt_state.specs.{declared.moves.Move.Move, declared.moves.Move.TheVariants.{Moved, Done as DoneMove}, Views.Core}

-- the operation is there, and P holds of its phase
abbrev pub IsNext : Core → ℕ → (Phase → Type 0) → Type 0
IsNext c o P = (op : Operation) × (operation_at c.table o ≡ Some op) × P op.walk.phase

-- what a step answers that leads to this phase
abbrev pub ending : Phase → Move
ending Done = DoneMove
ending _ = Moved
