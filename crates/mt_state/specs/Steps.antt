-- What a step makes of an operation as it is shown.
use Rattle.std.specs.Prelude.{◌≡◌, ℕ, ◌==◌, if◌then◌else◌, Option, Some, None}
use Rattle.mt_rows.specs.Maps.{is_change}
use Rattle.mt_operation.specs.declared.phase.Phase.{Phase}
use Rattle.mt_operation.specs.declared.phase.Phase.TheVariants.{Enter, Search, Load, Lock, Judge, Store, Publish, Snap, Hop, MarkUnstable, Link, MarkLayer, SplitStart, LockParent, DropKey, Unlink, Unlock, Done}
use Rattle.mt_operation.specs.{declared.outcome.Outcome.Outcome, Phases.MayFollow, Operations.OperationView}

-- the operation is asked the same, of the same worker for the same tenant
pub record IsSameAsked (before after : OperationView) : Type 0 where
  pub worker : after.worker ≡ before.worker
  pub tenant : after.tenant ≡ before.tenant
  pub command : after.command ≡ before.command

-- Pairs of phases of which no step leads from the first to the second: one between them would be left out. So nobody is done with what he has only entered or
-- searched, places what he has not judged, makes live what he has not written into its slot, keeps what he has not compared, or takes a slot for a link that is not written.
abbrev pub LeavesOut : Phase → Phase → Type 0
LeavesOut Enter Load = Unit {0}
LeavesOut Enter Done = Unit {0}
LeavesOut Search Done = Unit {0}
LeavesOut Lock Store = Unit {0}
LeavesOut Lock Publish = Unit {0}
LeavesOut Judge Publish = Unit {0}
LeavesOut Snap Hop = Unit {0}
LeavesOut MarkUnstable MarkLayer = Unit {0}
LeavesOut Link Unlock = Unit {0}
LeavesOut SplitStart LockParent = Unit {0}
LeavesOut DropKey Unlink = Unit {0}
LeavesOut _ _ = ⊥

-- the operation has made the step of this number; its birth stays
pub record HasMoved (before after : OperationView) (step : ℕ) : Type 0 where
  pub asked : IsSameAsked before after
  pub birth : after.birth ≡ before.birth
  pub first : after.first ≡ (if before.first == 0 then step else before.first)
  pub last : after.last ≡ step
  pub follows : MayFollow before.phase after.phase

-- the number of the change that an outcome tells of, if it tells of one
abbrev pub told_change : Option Outcome → Option ℕ
told_change None = None
told_change (Some told) = if is_change told.reply then Some told.at else None

-- the number of the change that an operation has made
abbrev pub change_in : OperationView → Option ℕ
change_in op = told_change op.outcome
