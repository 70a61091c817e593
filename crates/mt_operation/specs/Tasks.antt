-- The command of a task, and what hangs on a command alone.
use Rattle.std.specs.Prelude.{Bool, false}
use Rattle.mt_rows.specs.{declared.command.Command.Command, declared.command.Command.TheVariants.{Get, Put, PutIf, Remove, Scan}}
use Rattle.mt_operation.specs.declared.task.Request.{Request}
use Rattle.mt_operation.specs.{declared.task.Request.TheVariants.{Get as GetOf, Put as PutOf, PutIf as PutIfOf, Remove as RemoveOf, Scan as ScanOf}, declared.task.Task.Task}
use Rattle.mt_operation.specs.declared.walk.Aim.{Aim}
use Rattle.mt_operation.specs.declared.walk.Aim.TheVariants as aims

-- the command that a request was made of
abbrev pub command_of : Request → Command
command_of (GetOf key columns) = Get key columns
command_of (PutOf key change) = Put key change
command_of (PutIfOf key stamp change) = PutIf key stamp change
command_of (RemoveOf key) = Remove key
command_of (ScanOf from after count columns) = Scan from after count columns

-- what a task asks
abbrev pub ask : Task → Command
ask task = command_of task.request

-- what a command comes to do at the border node of its key
abbrev pub aim_of : Command → Aim
aim_of (Get key columns) = aims.Read
aim_of (Put key change) = aims.Write
aim_of (PutIf key stamp change) = aims.Write
aim_of (Remove key) = aims.Write
aim_of (Scan from after count columns) = aims.Scan

-- whether a scan begins behind its key
abbrev pub begins_after : Command → Bool
begins_after (Scan from after count columns) = after
begins_after _ = false
