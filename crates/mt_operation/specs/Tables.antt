-- The table of operations, as it is shown.
use Rattle.std.specs.Prelude.{◌≡◌, ℕ, ◌+◌, ◌<◌, ◌≤◌, true, List, length, count_by, Option, Some, None, is_some, slice_index_or}
use Rattle.mt_operation.specs.{declared.operation.Operation.Operation, Operations.is_unfinished}

-- the operations by their ids: those that were begun and whose answer was not taken
abbrev pub Table : Type 0
Table = List (Option Operation)

-- the operation of an id
abbrev pub op_at : Table → ℕ → Option Operation
op_at table o = slice_index_or table o None

-- how many operations are open
abbrev pub open_count : Table → ℕ
open_count table = count_by is_some table

-- there is a place for so many more
abbrev pub HasPlaces : Table → ℕ → Type 0
HasPlaces table more = open_count table + more ≤ length table

-- the same operations at the same ids, and places may have come behind them
pub record AddsPlaces (old new : Table) : Type 0 where
  pub same : (o : ℕ) → op_at new o ≡ op_at old o
  pub count : open_count new ≡ open_count old
  pub places : length old ≤ length new

-- no first step of the table's operations has this number or a later one
abbrev pub AreBefore : Table → ℕ → Type 0
AreBefore table step = (q : ℕ) (op : Operation) → op_at table q ≡ Some op → op.walk.first < step

-- the step may be made by the operation of an id: first steps are before it, and the operation has a step left
pub record MayMove (table : Table) (o step : ℕ) : Type 0 where
  pub later : AreBefore table step
  pub unfinished : (op : Operation) → op_at table o ≡ Some op → is_unfinished op ≡ true

-- every operation of the table that has made a step made its first one after this number
abbrev pub IsBeforeFirsts : Table → ℕ → Type 0
IsBeforeFirsts table floor = (o : ℕ) (op : Operation) → op_at table o ≡ Some op → 0 < op.walk.first → floor < op.walk.first

-- the floor that a tape needs after so many steps: the greatest number of steps that is before the first step of each operation of the table
pub record IsFloorNeeded (table : Table) (steps floor : ℕ) : Type 0 where
  pub made : floor ≤ steps
  pub before : IsBeforeFirsts table floor
  pub greatest : (n : ℕ) → n ≤ steps → IsBeforeFirsts table n → n ≤ floor

-- every operation of the table was begun after at least so many steps
abbrev pub AreBornFrom : Table → ℕ → Type 0
AreBornFrom table n = (o : ℕ) (op : Operation) → op_at table o ≡ Some op → n ≤ op.birth

-- every operation of the table was begun after at most so many steps
abbrev pub AreBornUpTo : Table → ℕ → Type 0
AreBornUpTo table n = (o : ℕ) (op : Operation) → op_at table o ≡ Some op → op.birth ≤ n

-- the least birth after so many steps: the greatest number of steps after which, or later, each operation of the table was begun
pub record IsLeastBirth (table : Table) (steps least : ℕ) : Type 0 where
  pub made : least ≤ steps
  pub below : AreBornFrom table least
  pub greatest : (n : ℕ) → n ≤ steps → AreBornFrom table n → n ≤ least
