-- The queue of the operations that have made a step, in the order of their first steps, that of all in the order of their begins, and what changes of one seat
-- do to them.
use Rattle.std.specs.Prelude.{◌≡◌, ◌≢◌, ℕ, ◌<◌, ◌≤◌, ◌⊎◌, length, Option, Some, None, slice_set}
use Rattle.slab.specs.Slab.{Slab}
use Rattle.mt_operation.specs.declared.operation.Operation.{Operation}
use Rattle.mt_table.specs.{declared.queue.Seat.Seat, declared.queue.Ends.Ends, declared.queue.Links.Links}
use Rattle.mt_table.specs.{declared.queue.Queue.Queue, declared.queue.Queue.TheVariants.{FirstSteps, Begins}}
use Rattle.mt_table.specs.Seats.{Seats, seat_at, with_operation, table_of, first_at, birth_at, after_in, before_in, after_of, before_of}

-- an operation that has made a step, or none
abbrev pub IsInQueue : (ℕ → ℕ) → Option ℕ → Type 0
IsInQueue firsts None = Unit {0}
IsInQueue firsts (Some o) = 0 < firsts o

-- the number after which the next in the queue comes
abbrev pub queue_number : (ℕ → ℕ) → Option ℕ → ℕ
queue_number firsts None = 0
queue_number firsts (Some o) = firsts o

-- one comes directly after another: its first step is later, and no first step lies between the two
abbrev pub ComesNext : (ℕ → ℕ) → Option ℕ → Option ℕ → Type 0
ComesNext firsts s None = IsInQueue firsts s × ((r : ℕ) → firsts r ≤ queue_number firsts s)
ComesNext firsts s (Some o) = IsInQueue firsts s × (queue_number firsts s < firsts o) × ((r : ℕ) → (firsts r ≤ queue_number firsts s) ⊎ (firsts o ≤ firsts r))

-- a queue: no two operations made one first step, and each has the neighbours that it names
pub record IsQueue (firsts : ℕ → ℕ) (after before : Option ℕ → Option ℕ) : Type 0 where
  pub apart : (o q : ℕ) → 0 < firsts o → firsts o ≡ firsts q → o ≡ q
  pub afters : (s : Option ℕ) → IsInQueue firsts s → ComesNext firsts s (after s)
  pub befores : (s : Option ℕ) → IsInQueue firsts s → ComesNext firsts (before s) s

-- The operations that are open stand in a queue in which no birth is below one before it. Their places in it are told by some numbers, which nobody keeps.
pub record AreInOrder (births : ℕ → Option ℕ) (after before : Option ℕ → Option ℕ) : Type 0 where
  pub rank : ℕ → ℕ
  pub queue : IsQueue rank after before
  pub opened : (o b : ℕ) → births o ≡ Some b → 0 < rank o
  pub closed : (o : ℕ) → births o ≡ None → rank o ≡ 0
  pub rises : (o q b c : ℕ) → births o ≡ Some b → births q ≡ Some c → rank o ≤ rank q → b ≤ c

-- the queue of first steps, and that of begins, by the links that the seats have
abbrev pub IsStepQueue : Seats → Ends → Type 0
IsStepQueue seats ends = IsQueue (first_at (table_of seats)) (after_of FirstSteps seats ends) (before_of FirstSteps seats ends)

abbrev pub IsBeginQueue : Seats → Ends → Type 0
IsBeginQueue seats ends = AreInOrder (birth_at (table_of seats)) (after_of Begins seats ends) (before_of Begins seats ends)

-- what holds of a table at all times
pub record IsTable (seats : Seats) (step_ends begin_ends : Ends) : Type 0 where
  pub first_steps : IsStepQueue seats step_ends
  pub begins : IsBeginQueue seats begin_ends

-- the seats all have a place, and each place has memory for a seat
pub record HasSeats (seats : Slab Seat) (places : ℕ) : Type 0 where
  pub shown : length seats.slots ≤ places
  pub held : places ≤ seats.capacity

-- each seat names in a queue whom it named before
pub record SameLinks (queue : Queue) (old new : Seats) : Type 0 where
  pub afters : (o : ℕ) → after_in queue (seat_at new o) ≡ after_in queue (seat_at old o)
  pub befores : (o : ℕ) → before_in queue (seat_at new o) ≡ before_in queue (seat_at old o)

-- the links of all queues but this one are as they were
abbrev pub LeavesOthers : Queue → Seats → Seats → Type 0
LeavesOthers queue old new = (other : Queue) → other ≢ queue → SameLinks other old new

-- one has a new neighbour after it in a queue; all other links and all operations are as they were
pub record SetsAfter (queue : Queue) (old : Seats) (old_ends : Ends) (new : Seats) (new_ends : Ends) (s to : Option ℕ) : Type 0 where
  pub here : after_of queue new new_ends s ≡ to
  pub others : (t : Option ℕ) → t ≢ s → after_of queue new new_ends t ≡ after_of queue old old_ends t
  pub befores : (t : Option ℕ) → before_of queue new new_ends t ≡ before_of queue old old_ends t
  pub leaves : LeavesOthers queue old new
  pub table : table_of new ≡ table_of old

-- the same before it
pub record SetsBefore (queue : Queue) (old : Seats) (old_ends : Ends) (new : Seats) (new_ends : Ends) (s to : Option ℕ) : Type 0 where
  pub here : before_of queue new new_ends s ≡ to
  pub others : (t : Option ℕ) → t ≢ s → before_of queue new new_ends t ≡ before_of queue old old_ends t
  pub afters : (t : Option ℕ) → after_of queue new new_ends t ≡ after_of queue old old_ends t
  pub leaves : LeavesOthers queue old new
  pub table : table_of new ≡ table_of old

-- two that had one between them in a queue, with these links, are neighbours
pub record CutsOut (queue : Queue) (old : Seats) (old_ends : Ends) (new : Seats) (new_ends : Ends) (links : Links) : Type 0 where
  pub after : after_of queue new new_ends links.before ≡ links.after
  pub before : before_of queue new new_ends links.after ≡ links.before
  pub afters : (u : Option ℕ) → u ≢ links.before → after_of queue new new_ends u ≡ after_of queue old old_ends u
  pub befores : (u : Option ℕ) → u ≢ links.after → before_of queue new new_ends u ≡ before_of queue old old_ends u
  pub leaves : LeavesOthers queue old new
  pub table : table_of new ≡ table_of old

-- an operation that was not in a queue is its last
pub record LinksLast (queue : Queue) (old : Seats) (old_ends : Ends) (new : Seats) (new_ends : Ends) (o : ℕ) : Type 0 where
  pub after : after_of queue new new_ends (before_of queue old old_ends None) ≡ Some o
  pub ends : after_of queue new new_ends (Some o) ≡ None
  pub before : before_of queue new new_ends (Some o) ≡ before_of queue old old_ends None
  pub last : before_of queue new new_ends None ≡ Some o
  pub afters : (u : Option ℕ) → u ≢ Some o → u ≢ before_of queue old old_ends None → after_of queue new new_ends u ≡ after_of queue old old_ends u
  pub befores : (u : Option ℕ) → u ≢ Some o → u ≢ None → before_of queue new new_ends u ≡ before_of queue old old_ends u
  pub leaves : LeavesOthers queue old new
  pub table : table_of new ≡ table_of old

-- the operation of an id, where it is there, has become what this makes of it; all links and all other operations are as they were
abbrev pub Becomes : Seats → Seats → ℕ → (Operation → Operation) → Type 0
Becomes old new o f = (seat : Seat) → seat_at old o ≡ Some seat → new ≡ slice_set old o (Some (with_operation seat (f seat.operation.value)))
