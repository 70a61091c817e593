-- The places of a table: what those behind its seats change, which is nothing but their number.
use Rattle.std.proofs.Common.{◌≡◌, ℕ, zero, suc, ◌+◌, ◌≤◌, List, [], ◌∷◌, length, set, cond, Option, Some, None, is_some, refl, sym, ap, ◌∙◌, arith}
use Rattle.std.proofs.{lemmas.List.{length-map, length-set}, lemmas.List.Recursion.is_count_by}
use Rattle.std.specs.Prelude.{count_by}
use Rattle.slab.specs.Slab.{Slab, HasRoomFor}
use Rattle.mt_operation.specs.{declared.operation.Operation.Operation, Tables.{Table, op_at, open_count, HasPlaces, AddsPlaces}}
use Rattle.mt_table.{specs.{declared.queue.Seat.Seat, Seats.{Seats, seat_at, operation_in, table_of, padded, KeepsRoom}, Queues.HasSeats}, proofs.Links.op_seat}

-- each id has what it had
pub padded_at : (n : ℕ) (table : Table) (o : ℕ) → op_at (padded n table) o ≡ op_at table o
padded_at zero table o = refl
padded_at (suc n) [] zero = refl
padded_at (suc n) [] (suc o) = padded_at n [] o
padded_at (suc n) (x ∷ table) zero = refl
padded_at (suc n) (x ∷ table) (suc o) = padded_at n table o

-- an operation that is there is written over in its place
pub padded_set : (n : ℕ) (table : Table) (o : ℕ) (op : Operation) (x : Option Operation) → op_at table o ≡ Some op → padded n (set table o x) ≡ set (padded n table) o x
padded_set zero table o op x there = refl
padded_set (suc n) [] o op x there = absurd (cc)
padded_set (suc n) (y ∷ table) zero op x there = refl
padded_set (suc n) (y ∷ table) (suc o) op x there = ap (λ (t : Table). y ∷ t) (padded_set n table o op x there)

-- how many are there, one by one
abbrev pub there_count : {X : Type 0} → List (Option X) → ℕ
there_count [] = 0
there_count (None ∷ xs) = there_count xs
there_count (Some x ∷ xs) = suc (there_count xs)

pub count_there : {X : Type 0} (xs : List (Option X)) → there_count xs ≡ count_by is_some xs
count_there {X} xs = is_count_by there_count is_some refl step xs
  where
    step : (x : Option X) (xs : List (Option X)) → there_count (x ∷ xs) ≡ cond (is_some x) (1 + there_count xs) (there_count xs)
    step None xs = refl
    step (Some x) xs = omega arith

padded_there : (n : ℕ) (table : Table) → there_count (padded n table) ≡ there_count table
padded_there zero table = refl
padded_there (suc n) [] = padded_there n []
padded_there (suc n) (None ∷ table) = padded_there n table
padded_there (suc n) (Some op ∷ table) = ap suc (padded_there n table)

padded_count : (n : ℕ) (table : Table) → open_count (padded n table) ≡ open_count table
padded_count n table = sym (count_there (padded n table)) ∙ padded_there n table ∙ count_there table

pub padded_length : (n : ℕ) (table : Table) → length table ≤ n → length (padded n table) ≡ n
padded_length zero [] le = refl
padded_length zero (x ∷ table) le = absurd (omega (arith, le))
padded_length (suc n) [] le = ap suc (padded_length n [] (omega arith))
padded_length (suc n) (x ∷ table) le = ap suc (padded_length n table (omega (arith, le)))

-- as many operations as seats
seats_there : (seats : Seats) → there_count (table_of seats) ≡ there_count seats
seats_there [] = refl
seats_there (None ∷ seats) = seats_there seats
seats_there (Some seat ∷ seats) = ap suc (seats_there seats)

count_seats : (seats : Seats) → open_count (table_of seats) ≡ count_by is_some seats
count_seats seats = sym (count_there (table_of seats)) ∙ seats_there seats ∙ count_there seats

-- the operation of an id, as the table shows it
pub shown_op : (n : ℕ) (seats : Seats) (now : Table) (o : ℕ) → padded n (table_of seats) ≡ now → op_at now o ≡ operation_in (seat_at seats o)
shown_op n seats now o is = ap (λ t. op_at t o) (sym is) ∙ padded_at n (table_of seats) o ∙ op_seat seats o

pub shown_at : (n : ℕ) (seats : Seats) (now : Table) (o : ℕ) → padded n (table_of seats) ≡ now → op_at now o ≡ op_at (table_of seats) o
shown_at n seats now o is = ap (λ t. op_at t o) (sym is) ∙ padded_at n (table_of seats) o

shown_count : (n : ℕ) (seats : Seats) (now : Table) → padded n (table_of seats) ≡ now → open_count now ≡ count_by is_some seats
shown_count n seats now is = ap open_count (sym is) ∙ padded_count n (table_of seats) ∙ count_seats seats

shown_length : (n : ℕ) (seats : Seats) (now : Table) → padded n (table_of seats) ≡ now → length seats ≤ n → length now ≡ n
shown_length n seats now is le = ap length (sym is) ∙ padded_length n (table_of seats) (omega (arith, le, length-map seats operation_in))

-- a seat written over takes no room and gives none up
pub written_room : (seats : Slab Seat) (o : ℕ) (x : Option Seat) → KeepsRoom seats (record seats { slots = set seats.slots o x })
written_room seats o x = record { slots = length-set seats.slots o x; capacity = refl }

pub slot_given : (old new : Slab Seat) (o : ℕ) → new.slots ≡ set old.slots o None → new.capacity ≡ old.capacity → KeepsRoom old new
slot_given old new o slots capacity = record { slots = ap length slots ∙ length-set old.slots o None; capacity = capacity }

pub same_room : (seats : Slab Seat) → KeepsRoom seats seats
same_room seats = record { slots = refl; capacity = refl }

pub room_on : (old mid new : Slab Seat) → KeepsRoom old mid → KeepsRoom mid new → KeepsRoom old new
room_on old mid new a b = record { slots = b.slots ∙ a.slots; capacity = b.capacity ∙ a.capacity }

-- the seats have their places still
pub seats_kept : (old new : Slab Seat) (n : ℕ) → KeepsRoom old new → HasSeats old n → HasSeats new n
seats_kept old new n keeps has = record { shown = omega (arith, has.shown, keeps.slots); held = omega (arith, has.held, keeps.capacity) }

-- and where memory came
pub seats_grown : (old new : Slab Seat) (n : ℕ) → new ≡ record old { capacity = new.capacity } → old.capacity ≤ new.capacity → HasSeats old n → HasSeats new n
seats_grown old new n same more has = record { shown = omega (arith, has.shown, ap (λ (s : Slab Seat). length s.slots) same); held = omega (arith, has.held, more) }

-- and where all memory is shown
pub seats_have_all : (seats : Slab Seat) (m : ℕ) → m ≡ seats.capacity → length seats.slots ≤ m → HasSeats seats m
seats_have_all seats m all fits = record { shown = fits; held = omega (arith, all) }

-- where there is a place, there is memory
pub place_has_room : (seats : Slab Seat) (n : ℕ) (now : Table) (more : ℕ) → padded n (table_of seats.slots) ≡ now → HasSeats seats n → HasPlaces now more → HasRoomFor seats more
place_has_room seats n now more is has places = omega (arith, places, shown_count n seats.slots now is, shown_length n seats.slots now is has.shown, has.held)

-- one seat more is one operation more
pub count_more : (old new : Seats) (n m : ℕ) (now : Table) → padded n (table_of old) ≡ now → count_by is_some new ≡ count_by is_some old + 1 → open_count (padded m (table_of new)) ≡ open_count now + 1
count_more old new n m now is more = omega (arith, shown_count m new (padded m (table_of new)) refl, more, shown_count n old now is)

-- no place is lost where there is as much memory as before, and each has one
pub places_more : (old new : Slab Seat) (n m : ℕ) (now : Table) → padded n (table_of old.slots) ≡ now → HasSeats old n → old.capacity ≤ m → length new.slots ≤ m → length now ≤ length (padded m (table_of new.slots))
places_more old new n m now is has grows fits = omega (arith, shown_length n old.slots now is has.shown, has.held, grows, shown_length m new.slots (padded m (table_of new.slots)) refl fits)

-- room that was made is shown
pub room_shown : (seats : Slab Seat) (m more : ℕ) → HasRoomFor seats more → seats.capacity ≤ m → length seats.slots ≤ m → HasPlaces (padded m (table_of seats.slots)) more
room_shown seats m more room all fits = omega (arith, room, all, shown_count m seats.slots (padded m (table_of seats.slots)) refl, shown_length m seats.slots (padded m (table_of seats.slots)) refl fits)

-- and nothing else
pub room_adds : (old new : Slab Seat) (n m : ℕ) (now : Table) → padded n (table_of old.slots) ≡ now → HasSeats old n → new.slots ≡ old.slots → old.capacity ≤ m → length new.slots ≤ m → AddsPlaces now (padded m (table_of new.slots))
room_adds old new n m now is has same grows fits = record {
  same = λ o. padded_at m (table_of new.slots) o ∙ ap (λ s. op_at (table_of s) o) same ∙ sym (shown_at n old.slots now o is);
  count = shown_count m new.slots (padded m (table_of new.slots)) refl ∙ ap (count_by is_some) same ∙ sym (shown_count n old.slots now is);
  places = places_more old new n m now is has grows fits;
}
