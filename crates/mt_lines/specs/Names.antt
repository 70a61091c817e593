-- The names of the open operations.
use Rattle.std.specs.{Prelude.{◌≡◌, ◌≢◌, ℕ, Bool, false, List, Option, Some, None, slice_index_or}, Ordering.{nat_cmp, eq_by_cmp}, Option.option_map, Map.lookup}
use Rattle.mt_core.specs.declared.answers.Ticket.{Ticket}
use Rattle.mt_lines.specs.declared.names.OpenOperation.{OpenOperation}

-- the open operations by the names that stand for them, each as its ticket and whether its answer shows the stamp of a row
abbrev pub Tickets : Type 0
Tickets = List (ℕ × OpenOperation)

-- the open operation that a name stands for
abbrev pub named_of : Tickets → ℕ → Option OpenOperation
named_of named name = lookup (eq_by_cmp nat_cmp name) named

-- its ticket
abbrev pub ticket_in : Option OpenOperation → Option Ticket
ticket_in kept = option_map (λ (n : OpenOperation). n.ticket) kept

-- whether its answer shows the stamp of a row
abbrev pub shows_in : Option OpenOperation → Bool
shows_in None = false
shows_in (Some n) = n.stamps

-- the ticket that a name stands for
abbrev pub ticket_of : Tickets → ℕ → Option Ticket
ticket_of named name = ticket_in (named_of named name)

-- whether the answer of the operation that a name stands for shows the stamp of a row
abbrev pub shows_of : Tickets → ℕ → Bool
shows_of named name = shows_in (named_of named name)

-- the id of the operation that a name stands for
abbrev pub operation_of : Tickets → ℕ → Option ℕ
operation_of named name = option_map (λ (t : Ticket). t.id) (ticket_of named name)

-- every other name stands for what it did
abbrev pub OtherNamesStay : Tickets → Tickets → ℕ → Type 0
OtherNamesStay old new name = (other : ℕ) → other ≢ name → operation_of new other ≡ operation_of old other

-- and its answer shows what it did
abbrev pub OthersShow : Tickets → Tickets → ℕ → Type 0
OthersShow old new name = (other : ℕ) → other ≢ name → shows_of new other ≡ shows_of old other

-- the name was free, and stands for this operation now, whose answer shows the stamp of a row or doesn't
pub record TakesName (old new : Tickets) (name o : ℕ) (stamps : Bool) : Type 0 where
  pub free : operation_of old name ≡ None
  pub taken : operation_of new name ≡ Some o
  pub shows : shows_of new name ≡ stamps
  pub others : OtherNamesStay old new name
  pub others_show : OthersShow old new name

-- the name is free now
pub record FreesName (old new : Tickets) (name : ℕ) : Type 0 where
  pub freed : operation_of new name ≡ None
  pub others : OtherNamesStay old new name
  pub others_show : OthersShow old new name

-- a row has at each operation's id the name that stands for it, and at no other id a name
pub record IsNameRow (named : Tickets) (row : List (Option ℕ)) : Type 0 where
  pub by_name : (name o : ℕ) → operation_of named name ≡ Some o → slice_index_or row o None ≡ Some name
  pub by_id : (name o : ℕ) → slice_index_or row o None ≡ Some name → operation_of named name ≡ Some o
