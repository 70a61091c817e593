-- The table of operations as it lies in memory: each operation in a seat, which names its neighbours in either queue.
use Rattle.std.specs.{Prelude.{◌≡◌, ℕ, zero, suc, ◌==◌, Bool, false, List, [], ◌∷◌, length, map, Option, Some, None, IsSome, slice_index_or}, Box.with_value}
use Rattle.slab.specs.Slab.{Slab}
use Rattle.mt_operation.specs.{declared.operation.Operation.Operation, Tables.{Table, op_at}}
use Rattle.mt_table.specs.{declared.queue.Seat.Seat, declared.queue.Ends.Ends, declared.queue.Links.Links}
use Rattle.mt_table.specs.{declared.queue.Queue.Queue, declared.queue.Queue.TheVariants.{FirstSteps, Begins}}

-- the seats by their ids
abbrev pub Seats : Type 0
Seats = List (Option Seat)

-- what is at an id
abbrev pub seat_at : Seats → ℕ → Option Seat
seat_at seats o = slice_index_or seats o None

-- a seat with another operation in its box
abbrev pub with_operation : Seat → Operation → Seat
with_operation seat op = record seat { operation = with_value seat.operation op }

-- the operation of a seat
abbrev pub operation_in : Option Seat → Option Operation
operation_in None = None
operation_in (Some seat) = Some seat.operation.value

-- the table that seats make
abbrev pub table_of : Seats → Table
table_of seats = map operation_in seats

-- the number of an operation's first step, 0 where it has made none or is not there
abbrev pub first_in : Option Operation → ℕ
first_in None = 0
first_in (Some op) = op.walk.first

-- the same of the operation of an id
abbrev pub first_at : Table → ℕ → ℕ
first_at table o = first_in (op_at table o)

-- after how many steps an operation was begun, if it is there
abbrev pub birth_in : Option Operation → Option ℕ
birth_in None = None
birth_in (Some op) = Some op.birth

-- the same of the operation of an id
abbrev pub birth_at : Table → ℕ → Option ℕ
birth_at table o = birth_in (op_at table o)

-- a seat's operation has made no step
abbrev pub is_still : Option Seat → Bool
is_still None = false
is_still (Some seat) = seat.operation.value.walk.first == 0

-- the neighbours that a seat names in a queue
abbrev pub links_of : Queue → Seat → Links
links_of FirstSteps seat = seat.first_steps
links_of Begins seat = seat.begins

-- a seat that names others in a queue
abbrev pub with_links : Queue → Links → Seat → Seat
with_links FirstSteps links seat = record seat { first_steps = links }
with_links Begins links seat = record seat { begins = links }

-- no neighbours
abbrev pub no_links : Links
no_links = record { before = None; after = None }

-- the neighbours of a seat, if it is there
abbrev pub after_in : Queue → Option Seat → Option ℕ
after_in queue None = None
after_in queue (Some seat) = (links_of queue seat).after

abbrev pub before_in : Queue → Option Seat → Option ℕ
before_in queue None = None
before_in queue (Some seat) = (links_of queue seat).before

-- what comes after an operation in a queue, and before it; none is the end at either side, so that after none comes the queue's first operation
abbrev pub after_of : Queue → Seats → Ends → Option ℕ → Option ℕ
after_of queue seats ends None = ends.first
after_of queue seats ends (Some o) = after_in queue (seat_at seats o)

abbrev pub before_of : Queue → Seats → Ends → Option ℕ → Option ℕ
before_of queue seats ends None = ends.last
before_of queue seats ends (Some o) = before_in queue (seat_at seats o)

-- a seat that is there, or the end
abbrev pub IsEndOrSeat : Seats → Option ℕ → Type 0
IsEndOrSeat seats None = Unit {0}
IsEndOrSeat seats (Some o) = IsSome (seat_at seats o)

-- a table with at least so many places, those behind its own ones empty
abbrev pub padded : ℕ → Table → Table
padded zero table = table
padded (suc n) [] = None ∷ padded n []
padded (suc n) (op ∷ table) = op ∷ padded n table

-- no seat was added and none given up, and there is memory for as many as before
pub record KeepsRoom (old new : Slab Seat) : Type 0 where
  pub slots : length new.slots ≡ length old.slots
  pub capacity : new.capacity ≡ old.capacity
