-- Logs and checkpoints in the format, whose limits a recovery keeps.
use Rattle.std.specs.Prelude.{List, Option, Some, None}
use Rattle.mt_checkpoint.specs.{declared.checkpoint.Checkpoint.Checkpoint, Checkpoints.{IsWalk, walk_of}}
use Rattle.mt_log.specs.Contents.{Contents, IsContents}
use Rattle.mt_crashes.specs.Fronts.{In}

-- what was read of a slot is none, or a checkpoint in the format
abbrev pub IsReadSlot : Option Checkpoint → Type 0
IsReadSlot None = Unit {0}
IsReadSlot (Some c) = IsWalk (walk_of c)

-- each log is in the format, whatever its steps and its stamps say
abbrev pub AreContents : List Contents → Type 0
AreContents fronts = (c : Contents) → In c fronts → IsContents c
