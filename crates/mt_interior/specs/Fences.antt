-- The range of a node, and where its children's ranges begin and end.
use Rattle.std.specs.Prelude.{ℕ, ◌+◌, ◌<◌, ◌≤◌, List, [], ◌∷◌, ◌++◌, Option, Some, None, slice_index}
use Rattle.mt_interior.specs.Node.{InteriorNode}

-- a high fence as a number: past the last slice where there is none
abbrev pub end_of : Option ℕ → ℕ
end_of None = 18446744073709551616
end_of (Some high) = high

-- the slice lies within the node's fences
abbrev pub HoldsSlice : InteriorNode → ℕ → Type 0
HoldsSlice n slice = (n.low ≤ slice) × (slice < end_of n.high)

-- fences with separators between: part i begins at element i and ends before the next
abbrev pub bounds_of : ℕ → List ℕ → Option ℕ → List ℕ
bounds_of low separators high = low ∷ separators ++ end_of high ∷ []

-- where the ranges of the node's children begin and end
abbrev pub bounds : InteriorNode → List ℕ
bounds n = bounds_of n.low n.separators n.high

-- the slice lies in part i
abbrev pub IsWithinBounds : List ℕ → ℕ → ℕ → Type 0
IsWithinBounds bounds i slice = (slice_index bounds i ≤ slice) × (slice < slice_index bounds (i + 1))
