-- A row as it stands at a key: with the number of the change that last wrote it.
use Rattle.mt_rows.specs.{Changes.{Named, changed}, Rows.{Bytes, Columns, shown}, declared.stamped.StampedRow.StampedRow}
use Rattle.std.specs.{Coded.{Coded, code_by, coded_list, coded_ℕ, coded×}, FinMap.FinMap, Prelude.{List, None, Option, Some, [], refl, ℕ, ◌≡◌, ◌≤◌, ◌⊎◌}}
use Rattle.std.specs.declared.cmp.Ordering.{Ordering}
use Rattle.std.specs.FinMap as pairs

-- a row is its columns and its stamp
abbrev pub Stamped : Type 0
Stamped = StampedRow

-- its code, for a map that has such rows
abbrev pub stamped_code : Coded Stamped
stamped_code = code_by (ℕ × Columns) (coded× coded_ℕ (coded_list (coded_list coded_ℕ))) (λ r. (r.stamp, r.row)) (λ p. record { stamp = p.0; row = p.1 }) (λ _. refl)

-- the columns of what stands at a key, or none if nothing stands
abbrev pub columns_in : Option Stamped → Columns
columns_in None = []
columns_in (Some r) = r.row

-- the stamp of what stands at a key, 0 if nothing stands
abbrev pub stamp_in : Option Stamped → ℕ
stamp_in None = 0
stamp_in (Some r) = r.stamp

-- what stands at a key after the change of this number
abbrev pub written : ℕ → Named → Option Stamped → Stamped
written number change old = record { stamp = number; row = changed change (columns_in old) }

-- a row with some of its columns alone, and with its stamp
abbrev pub as_shown : List ℕ → Stamped → Stamped
as_shown columns r = record r { row = shown columns r.row }

-- a row with the stamp that a function gives for its own
abbrev pub restamped_row : (ℕ → ℕ) → Stamped → Stamped
restamped_row f r = record { stamp = f r.stamp; row = r.row }

-- no row of a map has a stamp over a number
abbrev pub StampsUpto : {K : Type 0} {R : K → K → Ordering} → ℕ → FinMap R Stamped → Type 0
StampsUpto {K} number m = (key : K) (r : Stamped) → pairs.get m key ≡ Some r → r.stamp ≤ number

-- what a command may leave at a key: what stood there, or nothing, or what a change makes of it, with the command's number
abbrev pub IsRowAfter : ℕ → Option Stamped → Option Stamped → Type 0
IsRowAfter number old new = (new ≡ old) ⊎ (new ≡ None) ⊎ ((change : Named) × (new ≡ Some (written number change old)))

-- a pair of a map without its row's stamp
abbrev pub unstamped : Bytes × Stamped → Bytes × Columns
unstamped p = (p.0, p.1.row)
