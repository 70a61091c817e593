-- Steps that a body makes of an operation in its place, and what they make of the table.
use Rattle.std.specs.Prelude.{◌≡◌, ◌≢◌, ℕ, ◌==◌, Bool, true, false, Some, None, slice_set}
use Rattle.mt_operation.specs.{declared.phase.Phase.Phase, declared.operation.Operation.Operation, Operations.{counted, is_unfinished}, Tables.{Table, op_at}}
use Rattle.mt_table.specs.{declared.steps.Made.Made, declared.steps.Made.TheVariants.{Step, Blocked as BlockedBy, NoMemory as RefusedBy, Nothing}}
use Rattle.mt_table.specs.{declared.steps.Stepped.Stepped, declared.steps.Stepped.TheVariants.{To, Blocked, NoMemory, Left, Absent}, declared.queue.Seat.Seat}
use Rattle.mt_table.specs.Seats.{Seats, seat_at, with_operation}

-- what a body may make of an operation
abbrev pub Body : Type 1
Body = Operation → Made → Operation → Type 0

-- the body makes steps of an operation that has one left
abbrev pub MovesUnfinished : Body → Table → ℕ → Type 0
MovesUnfinished Makes table o = (op after : Operation) → op_at table o ≡ Some op → Makes op Step after → is_unfinished op ≡ true

-- they leave the number of its first step
abbrev pub KeepsFirst : Body → Table → ℕ → Type 0
KeepsFirst Makes table o = (op after : Operation) → op_at table o ≡ Some op → Makes op Step after → after.walk.first ≡ op.walk.first

-- whatever comes of the step, the body leaves its birth
abbrev pub KeepsBirth : Body → Table → ℕ → Type 0
KeepsBirth Makes table o = (op after : Operation) (made : Made) → op_at table o ≡ Some op → Makes op made after → after.birth ≡ op.birth

-- where memory is refused, the body leaves its walk
abbrev pub KeepsWalk : Body → Table → ℕ → Type 0
KeepsWalk Makes table o = (op after : Operation) → op_at table o ≡ Some op → Makes op RefusedBy after → after.walk ≡ op.walk

-- and where it makes no step else, all of it
abbrev pub LeavesElse : Body → Table → ℕ → Type 0
LeavesElse Makes table o = (op after : Operation) (made : Made) → made ≢ Step → made ≢ RefusedBy → op_at table o ≡ Some op → Makes op made after → after ≡ op

-- by the step of this number an operation of a table has become what a body makes of it, and stands at this phase
pub record MovesBy (Makes : Body) (old new : Table) (o step : ℕ) (phase : Phase) : Type 0 where
  pub op : Operation
  pub there : op_at old o ≡ Some op
  pub after : Operation
  pub makes : Makes op Step after
  pub phase_is : phase ≡ after.walk.phase
  pub table : new ≡ slice_set old o (Some (counted after step op.walk.first))

-- an operation of a table is as it was, and this is what a body has made of it
pub record StaysBy (Makes : Body) (table : Table) (o : ℕ) (made : Made) : Type 0 where
  pub op : Operation
  pub there : op_at table o ≡ Some op
  pub makes : Makes op made op

-- an operation of a table has made no step, and has what a body has grown of it before memory was refused
pub record GrowsBy (Makes : Body) (old new : Table) (o : ℕ) : Type 0 where
  pub op : Operation
  pub there : op_at old o ≡ Some op
  pub after : Operation
  pub makes : Makes op RefusedBy after
  pub table : new ≡ slice_set old o (Some after)

-- what has come of a step that a body was to make
abbrev pub StepsBy : Body → Table → Table → ℕ → ℕ → Stepped → Type 0
StepsBy Makes old new o step (To phase) = MovesBy Makes old new o step phase
StepsBy Makes old new o step (Blocked holder) = StaysBy Makes old o (BlockedBy holder) × (new ≡ old)
StepsBy Makes old new o step NoMemory = GrowsBy Makes old new o
StepsBy Makes old new o step Left = StaysBy Makes old o Nothing × (new ≡ old)
StepsBy Makes old new o step Absent = (op_at old o ≡ None) × (new ≡ old)

-- the same of the operation in a seat
abbrev pub SeatKeepsFirst : Body → Seats → ℕ → Type 0
SeatKeepsFirst Makes seats o = (seat : Seat) (after : Operation) → seat_at seats o ≡ Some seat → Makes seat.operation.value Step after → after.walk.first ≡ seat.operation.value.walk.first

-- the step of a body in a seat
pub record SeatMovesBy (Makes : Body) (old new : Seats) (o step : ℕ) (is_first : Bool) (phase : Phase) : Type 0 where
  pub seat : Seat
  pub there : seat_at old o ≡ Some seat
  pub after : Operation
  pub makes : Makes seat.operation.value Step after
  pub phase_is : phase ≡ after.walk.phase
  pub first : is_first ≡ (seat.operation.value.walk.first == 0)
  pub slots : new ≡ slice_set old o (Some (with_operation seat (counted after step seat.operation.value.walk.first)))

-- what it leaves there where it makes none
pub record SeatStaysBy (Makes : Body) (old new : Seats) (o : ℕ) (is_first : Bool) (made : Made) : Type 0 where
  pub seat : Seat
  pub there : seat_at old o ≡ Some seat
  pub after : Operation
  pub makes : Makes seat.operation.value made after
  pub first : is_first ≡ false
  pub slots : new ≡ slice_set old o (Some (with_operation seat after))

abbrev pub SeatStepsBy : Body → Seats → Seats → ℕ → ℕ → Bool → Stepped → Type 0
SeatStepsBy Makes old new o step is_first (To phase) = SeatMovesBy Makes old new o step is_first phase
SeatStepsBy Makes old new o step is_first (Blocked holder) = SeatStaysBy Makes old new o is_first (BlockedBy holder)
SeatStepsBy Makes old new o step is_first NoMemory = SeatStaysBy Makes old new o is_first RefusedBy
SeatStepsBy Makes old new o step is_first Left = SeatStaysBy Makes old new o is_first Nothing
SeatStepsBy Makes old new o step is_first Absent = (seat_at old o ≡ None) × (new ≡ old) × (is_first ≡ false)
