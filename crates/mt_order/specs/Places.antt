-- The order of the slots of a border node.
use Rattle.std.specs.{Prelude.{◌≡◌, ℕ, suc, ◌==◌, if◌then◌else◌, ◌+◌, ◌*◌, ◌<◌, ◌≤◌, List, [], ◌∷◌, ◌++◌, length, drop, insert, remove, slice_index}, List.All}
use Rattle.std.specs.List.Sorted.{IsPermutation}

-- the live slots in the order of their keys, and the free ones in the order in which they are taken
pub record Places : Type 0 where
  pub live : List ℕ
  pub free : List ℕ

abbrev pub fifteen : List ℕ
fifteen = 0 ∷ 1 ∷ 2 ∷ 3 ∷ 4 ∷ 5 ∷ 6 ∷ 7 ∷ 8 ∷ 9 ∷ 10 ∷ 11 ∷ 12 ∷ 13 ∷ 14 ∷ []

abbrev pub fresh_order : Places
fresh_order = record { live = []; free = fifteen }

-- each of the fifteen slots stands there once, and so many of them are live
pub record IsOrder (slots : List ℕ) (live : ℕ) : Type 0 where
  pub once_each : IsPermutation fifteen slots
  pub total : length slots ≡ 15
  pub below : All (λ s. s < 15) slots
  pub within : live ≤ 15

-- what an order shows: the live slots and the free ones are all fifteen
abbrev pub IsPlaces : Places → Type 0
IsPlaces o = IsOrder (o.live ++ o.free) (length o.live)

-- the number with these digits to the base 16, the first of them lowest
abbrev pub number : List ℕ → ℕ
number [] = 0
number (s ∷ rest) = s + 16 * number rest

-- how many slots are live, and then all slots
abbrev pub word_of : Places → ℕ
word_of o = length o.live + 16 * number (o.live ++ o.free)

-- an order whose first free slot is live now, at a place
abbrev pub order_with : Places → ℕ → Places
order_with o place = record { live = insert o.live place (slice_index o.free 0); free = drop 1 o.free }

-- an order whose live slot of a place is the first free one now
abbrev pub order_without : Places → ℕ → Places
order_without o place = record { live = remove o.live place; free = slice_index o.live place ∷ o.free }

-- how many slots stand before a slot; all of them, where it isn't there
abbrev pub place_of_slot : List ℕ → ℕ → ℕ
place_of_slot [] slot = 0
place_of_slot (s ∷ slots) slot = if s == slot then 0 else suc (place_of_slot slots slot)
