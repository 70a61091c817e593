-- The way of an operation to its node: the phases in which it looks for it, and where they lead.
use Rattle.std.specs.Prelude.{◌≡◌, ℕ, ◌+◌, List, Option, Some, None, slice_set}
use Rattle.mt_rows.specs.{declared.reply.Reply.TheVariants.Found, Stamps.{Stamped, as_shown}}
use Rattle.mt_operation.specs.{declared.phase.Phase.Phase, declared.phase.Phase.TheVariants.{Search, Lock, Snap}, declared.walk.Walk.Walk}
use Rattle.mt_operation.specs.{Phases.{MayFollow, IsOfKind, IsDescent}, declared.outcome.Outcome.Outcome, declared.operation.Operation.Operation, Tasks.ask}
use Rattle.mt_operation.specs.Operations.{moved}
use Rattle.mt_descent.specs.WalkMoves.{Continues}
use Rattle.mt_state.specs.{Notes.{Says, columns_asked}, Views.Core}

-- a phase in which an operation looks for its node, or is there
abbrev pub IsOnWay : Phase → Type 0
IsOnWay Search = Unit {0}
IsOnWay Lock = Unit {0}
IsOnWay Snap = Unit {0}
IsOnWay phase = IsDescent phase

-- a walk goes on so, to look or to lock as before
pub record Descends (before after : Walk) : Type 0 where
  pub on_way : IsOnWay after.phase
  pub same : Continues before after
  pub follows : MayFollow before.phase after.phase
  pub kind : IsOfKind after.phase after.aim

-- a state in which operation o has walked on by one more step, with this outcome or none, and all else is as it was
abbrev pub walked : Core → ℕ → Operation → Walk → Option Outcome → Core
walked c o op w told = record c { steps = c.steps + 1; table = slice_set c.table o (Some (record (moved op (c.steps + 1) w) { outcome = told })) }

-- the outcome of a get that took this row, or none
pub record ShowsTaken (op : Operation) (row : Option Stamped) (after : Walk) (told : Option Outcome) : Type 0 where
  pub none : row ≡ None → told ≡ None
  pub some : (had : Stamped) (asked : List ℕ) → row ≡ Some had → columns_asked (ask op.task) ≡ Some asked
      → Says told (Found (as_shown asked had)) after.right_at
