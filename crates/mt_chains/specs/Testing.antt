-- The tests by which chains are chosen, as the code makes them.
use Rattle.std.specs.{Prelude.{ℕ, ◌+◌, ◌==◌, Bool, true, false, not, ◌&&◌, ◌||◌, nat_lt, List, [], ◌∷◌, Option, Some, None, if◌then◌else◌}, List.{list_all, list_any}}
use Rattle.mt_log.specs.{declared.batch.{LogBatch.LogBatch, Front.Front}, Contents.mark_of}
use Rattle.mt_crashes.specs.{Fronts.{is_void, voids_of}, Bases.{CheckpointView, Slots}}
use Rattle.mt_generations.specs.{Chains.Chain, Standings.{Standing, chain_from}}

-- the batches of a log, none of no log
abbrev pub batches_in : Option Chain → List LogBatch
batches_in None = []
batches_in (Some c) = c.batches

-- whether there is a log
abbrev pub is_there : Option Chain → Bool
is_there None = false
is_there (Some c) = true

-- whether there is a log, and it begins at step 0
abbrev pub is_first : Option Chain → Bool
is_first None = false
is_first (Some c) = c.start == 0

-- whether a checkpoint that was walked from one number to another covers what was given up to a step
abbrev pub covers : ℕ → ℕ → ℕ → Bool
covers from to start = not (nat_lt from start) && (start == 0 || nat_lt from to)

-- whether it may be used over a chain
abbrev pub serves : ℕ → ℕ → Option Chain → Bool
serves from to None = false
serves from to (Some c) = covers from to c.start && not (nat_lt (mark_of c) to) && not (is_void (voids_of c) to)

-- whether each worker has a log of a generation; whether each has one that begins at step 0
abbrev pub all_have : ℕ → List Standing → Bool
all_have g files = list_all (λ (f : Standing). is_there (f g)) files

abbrev pub all_first : ℕ → List Standing → Bool
all_first g files = list_all (λ (f : Standing). is_first (f g)) files

-- whether a checkpoint may be used over each worker's chain from a generation on
abbrev pub serves_all : ℕ → ℕ → ℕ → List Standing → Bool
serves_all g from to files = list_all (λ (f : Standing). serves from to (chain_from g f)) files

-- whether the checkpoint of a slot may, and whether that of any slot may
abbrev pub slot_serves : ℕ → List Standing → Option CheckpointView → Bool
slot_serves g files None = false
slot_serves g files (Some c) = serves_all g c.from c.to files

abbrev pub any_serves : ℕ → List Standing → Slots → Bool
any_serves g files slots = list_any (slot_serves g files) slots

-- whether a generation is over the last one so far, if there is one
abbrev pub is_over : ℕ → Option ℕ → Bool
is_over g None = true
is_over g (Some last) = nat_lt last g

-- the later one of a generation and the last one so far, if each worker has a log of it
abbrev pub later : ℕ → List Standing → Option ℕ → Option ℕ
later g files last = if is_over g last && all_have g files then Some g else last

-- and of the generations of some numbered files' logs
abbrev pub later_among : List (Option Front) → List Standing → Option ℕ → Option ℕ
later_among [] files last = last
later_among (None ∷ logs) files last = later_among logs files last
later_among (Some front ∷ logs) files last = later_among logs files (later front.generation files last)

-- where the next log begins, if that is not where the one before it ends
abbrev pub apart_start : Option Chain → Option Chain → Option ℕ
apart_start None next = None
apart_start (Some first) None = None
apart_start (Some first) (Some next) = if next.start == mark_of first then None else Some next.start

-- where a log begins, if there is one
abbrev pub start_in : Option Chain → Option ℕ
start_in None = None
start_in (Some c) = Some c.start

-- the one start, or else the other
abbrev pub or_other : Option ℕ → Option ℕ → Option ℕ
or_other None other = other
or_other (Some start) other = Some start

-- a start that falls in a worker's logs of three generations
abbrev pub fall_start : Option Chain → Option Chain → Option Chain → Option ℕ
fall_start first next later = or_other (apart_start first next) (start_in later)

-- a start with its worker's place, or else what was found of the later workers
abbrev pub or_later : ℕ → Option ℕ → Option (ℕ × ℕ) → Option (ℕ × ℕ)
or_later place None later = later
or_later place (Some start) later = Some (place, start)

-- the first worker, from a place on, in whose logs a start falls
abbrev pub first_apart : ℕ → ℕ → List Standing → Option (ℕ × ℕ)
first_apart g place [] = None
first_apart g place (f ∷ files) = or_later place (fall_start (f g) (f (g + 1)) (f (g + 2))) (first_apart g (place + 1) files)

-- whether a log, if there is one, names this worker and so many logs
abbrev pub is_owned : ℕ → ℕ → Option Chain → Bool
is_owned worker count None = true
is_owned worker count (Some c) = (c.worker == worker) && (c.logs == count)

-- whether each worker's log of a generation does, and that of the next one, from a place on
abbrev pub are_owned : ℕ → ℕ → ℕ → List Standing → Bool
are_owned g count place [] = true
are_owned g count place (f ∷ files) = is_owned place count (f g) && is_owned place count (f (g + 1)) && are_owned g count (place + 1) files
