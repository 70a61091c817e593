-- Which operation is a pass's own: by its id, and by its birth. That is how many steps had been made when it was begun.
use Rattle.std.specs.{Prelude.{◌≡◌, ℕ, List, Option, Some, None, slice_index_or, slice_set}, Option.option_map}
use Rattle.mt_state.specs.Views.{Shown, op_at}
use Rattle.mt_book.specs.{declared.births.Born.Born, declared.desks.Admitted.Admitted, declared.desks.Taken.Taken}
use Rattle.mt_book.specs.declared.desks.Admitted.TheVariants as admitted
use Rattle.mt_book.specs.declared.desks.Taken.TheVariants as taken

-- the birth of the operation of an id, if one is open
abbrev pub birth_at : Shown → ℕ → Option ℕ
birth_at table id = option_map (λ op. op.birth) (op_at table id)

-- what the pass of a seat began last, if its answer was not taken
abbrev pub born_at : List (Option Born) → ℕ → Option Born
born_at births seat = slice_index_or births seat None

-- what stands at each seat is open, with its birth, and stands at no other seat
pub record AreBorn (table : Shown) (births : List (Option Born)) : Type 0 where
  pub open_so : (seat : ℕ) (own : Born) → born_at births seat ≡ Some own → birth_at table own.id ≡ Some own.birth
  pub apart : (seat other : ℕ) (own its : Born) → born_at births seat ≡ Some own → born_at births other ≡ Some its → own.id ≡ its.id → seat ≡ other

-- an operation that was begun after so many steps stands at its pass's seat
abbrev pub noted : List (Option Born) → ℕ → ℕ → Admitted → List (Option Born)
noted births seat steps (admitted.Begun ticket phase) = slice_set births seat (Some (record { id = ticket.id; birth = steps }))
noted births seat steps _ = births

-- one whose answer was taken doesn't
abbrev pub cleared : List (Option Born) → ℕ → Taken → List (Option Born)
cleared births seat (taken.Answered answer) = slice_set births seat None
cleared births seat _ = births
