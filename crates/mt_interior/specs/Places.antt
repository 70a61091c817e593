-- Where a slice belongs among separators.
use Rattle.std.specs.Prelude.{◌≢◌, ℕ, ◌<◌, ◌≤◌, List, length, slice_index, count_by, nat_le}

-- the number of separators that are at most the slice: the place of the child to which it belongs
abbrev pub place_of : List ℕ → ℕ → ℕ
place_of separators slice = count_by (λ separator. nat_le separator slice) separators

-- the separators before the place are at most the slice, and those from it on are above it
pub record IsPlace (separators : List ℕ) (slice place : ℕ) : Type 0 where
  pub in_range : place ≤ length separators
  pub at_most_before : (i : ℕ) → i < place → slice_index separators i ≤ slice
  pub above_after : (i : ℕ) → place ≤ i → i < length separators → slice < slice_index separators i

-- no separator is this one
abbrev pub IsNew : List ℕ → ℕ → Type 0
IsNew separators separator = (i : ℕ) → i < length separators → slice_index separators i ≢ separator
