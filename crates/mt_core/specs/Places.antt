-- Places for operations: how many more can be begun with no memory for the table.
use Rattle.std.specs.Prelude.{◌≡◌, ℕ, ◌+◌, ◌≤◌, length, count_by, is_some}
use Rattle.mt_state.specs.Views.{Shown, StateView, op_at}

-- how many operations are open
abbrev pub open_count : Shown → ℕ
open_count table = count_by is_some table

-- there is a place for so many more
abbrev pub HasPlaces : StateView → ℕ → Type 0
HasPlaces v more = open_count v.table + more ≤ length v.table

-- one operation more is open, and there are no fewer places
pub record TakesPlace (old new : StateView) : Type 0 where
  pub count : open_count new.table ≡ open_count old.table + 1
  pub places : length old.table ≤ length new.table

-- the same state, to which places may have come
pub record AddsPlaces (old new : StateView) : Type 0 where
  pub same : (o : ℕ) → op_at new.table o ≡ op_at old.table o
  pub count : open_count new.table ≡ open_count old.table
  pub places : length old.table ≤ length new.table
  pub stands : new ≡ record old { table = new.table }
