-- An operation between its steps: what is shown of it, and what each change makes of it.
use Rattle.std.specs.Prelude.{◌≡◌, ℕ, List, [], Bool, false, not, ◌==◌, if◌then◌else◌, Option, Some, None}
use Rattle.mt_rows.specs.{declared.command.Command.Command, Rows.Bytes, Stamps.Stamped}
use Rattle.mt_operation.specs.{declared.phase.Phase.Phase, declared.walk.Walk.Walk, declared.task.Task.Task, declared.outcome.Outcome.Outcome}
use Rattle.mt_operation.specs.{declared.prepared.Prepared.Prepared, declared.splits.Halves.Halves, declared.splits.Splits.Splits}
use Rattle.mt_operation.specs.{declared.removal.Removal.Removal, declared.scan.Scan.Scan, declared.scan.Stop.Stop, declared.operation.Operation.Operation}
use Rattle.mt_operation.specs.{Phases.is_done, Tasks.{ask, aim_of, begins_after}, Walks.walk_from_top}
use Rattle.mt_operation.specs.declared.scan.Stop.TheVariants as stops

-- what is shown of splits: the halves from the lowest level up, the node above the last ones once it is locked, and how many children of the last right
-- half name it already
pub record SplitsView : Type 0 where
  pub halves : List Halves
  pub above : Option ℕ
  pub moved : ℕ

abbrev pub splits_of : Splits → SplitsView
splits_of s = record { halves = s.halves.items; above = s.above; moved = s.moved }

-- nothing is split
abbrev pub no_splits : SplitsView
no_splits = record { halves = []; above = None; moved = 0 }

-- what is shown of a scan: the fence that it has reached, whether it begins behind that, the pairs that it has collected, those that it has seen, and how the
-- stretch ends in which it has
pub record ScanView : Type 0 where
  pub fence : Bytes
  pub after : Bool
  pub collected : List (Bytes × Stamped)
  pub seen : List (Bytes × Stamped)
  pub stop : Stop

abbrev pub scan_of : Task → Scan → ScanView
scan_of task s = record { fence = task.key; after = s.after; collected = s.collected.items; seen = s.seen; stop = s.stop }

-- nothing is collected yet, and nothing seen
abbrev pub no_scan : Bytes → Command → ScanView
no_scan key command = record { fence = key; after = begins_after command; collected = []; seen = []; stop = stops.Tree }

-- what is shown of an operation: whose command it is, after how many steps it was begun, the numbers of its first and last step so far, 0 where it has made
-- none, what its next step does, what it answers, once that is known, what it remembers of its way, what it has split, and what it remembers of its removal,
-- and of its scan
pub record OperationView : Type 0 where
  pub worker : ℕ
  pub tenant : ℕ
  pub command : Command
  pub birth : ℕ
  pub first : ℕ
  pub last : ℕ
  pub phase : Phase
  pub outcome : Option Outcome
  pub walk : Walk
  pub splits : SplitsView
  pub removal : Removal
  pub scan : ScanView

abbrev pub view_of : Operation → OperationView
view_of op = record {
  worker = op.task.worker;
  tenant = op.task.tenant;
  command = ask op.task;
  birth = op.birth;
  first = op.walk.first;
  last = op.last;
  phase = op.walk.phase;
  outcome = op.outcome;
  walk = op.walk;
  splits = splits_of op.splits;
  removal = op.removal;
  scan = scan_of op.task op.scan;
}

-- an operation with a step left
abbrev pub is_unfinished : Operation → Bool
is_unfinished op = not (is_done op.walk.phase)

-- the operation has split nothing, or has given all back
pub record IsUnsplit (s : Splits) : Type 0 where
  pub halves : s.halves.items ≡ []
  pub above : s.above ≡ None
  pub moved : s.moved ≡ 0

-- the operation has emptied no border node, holds none beside it, and goes to no link to take it out
abbrev pub no_removal : Removal
no_removal = record { emptied = false; left = None; parent = None; below = None; cleans = None }

-- an operation before its first step, not admitted yet, with the splits of one that has split nothing, and with what one remembers that has scanned nothing
abbrev pub begun : Task → Splits → Scan → Operation
begun task splits scan = record {
  task = task;
  walk = walk_from_top (aim_of (ask task)) 0;
  last = 0;
  birth = 0;
  outcome = None;
  prepared = None;
  splits = splits;
  removal = no_removal;
  scan = scan;
}

-- the same operation, begun after so many steps
abbrev pub born : Operation → ℕ → Operation
born op steps = record op { birth = steps }

-- an operation that has made the step of this number, which is its first where it had made none, and walks on so
abbrev pub moved : Operation → ℕ → Walk → Operation
moved op step walk = record op { walk = record walk { first = if op.walk.first == 0 then step else op.walk.first }; last = step }

-- an operation for which a step of this number is counted, as its first where none had the number that is named
abbrev pub counted : Operation → ℕ → ℕ → Operation
counted op step first = record op { walk = record op.walk { first = if first == 0 then step else first }; last = step }

-- the same with this outcome, or with none
abbrev pub noted : Operation → Option Outcome → Operation
noted op outcome = record op { outcome = outcome }

-- with this made ready
abbrev pub made_ready : Operation → Prepared → Operation
made_ready op prepared = record op { prepared = Some prepared }

-- with these splits
abbrev pub with_splits : Operation → Splits → Operation
with_splits op splits = record op { splits = splits }

-- with this of its removal
abbrev pub with_removal : Operation → Removal → Operation
with_removal op removal = record op { removal = removal }

-- and with nothing ready
abbrev pub with_nothing_ready : Operation → Operation
with_nothing_ready op = record op { prepared = None }
