-- Arguments of commands: numbers, each spelled in one way, and fields.
use Rattle.std.specs.Prelude.{ℕ, ◌+◌, ◌-◌, ◌*◌, ◌^◌, Bool, true, false, ◌&&◌, List, [], ◌∷◌, Option, Some, None, nat_lt, nat_le, ◌==◌, if◌then◌else◌}
use Rattle.mt_resp.specs.{Grammar.Bytes, Reading.is_digit, declared.arguments.Amount.Amount}
use Rattle.mt_resp.specs.declared.arguments.Amount.TheVariants as amounts

-- a number of at most `most` that has begun so, with its other digits
abbrev pub digits_of : ℕ → ℕ → Bytes → Option ℕ
digits_of most value [] = Some value
digits_of most value (b ∷ rest) =
    if is_digit b then (if nat_lt most (value * 10 + (b - 48)) then None else digits_of most (value * 10 + (b - 48)) rest) else None

-- a zero has no digit after it
abbrev pub zero_of : Bytes → Option ℕ
zero_of [] = Some 0
zero_of (b ∷ rest) = None

-- the number of at most `most` that a word is, with no zero before it
abbrev pub number_of : ℕ → Bytes → Option ℕ
number_of most [] = None
number_of most (b ∷ rest) = if b == 48 then zero_of rest else if is_digit b then digits_of most (b - 48) rest else None

-- a number that isn't 0 goes down
abbrev pub down_of : Option ℕ → Option Amount
down_of None = None
down_of (Some size) = if size == 0 then None else Some (amounts.Down size)

abbrev pub up_of : Option ℕ → Option Amount
up_of None = None
up_of (Some size) = Some (amounts.Up size)

-- the amount that a word is: a number below 2 ^ 63, or a minus and one that isn't 0
abbrev pub amount_of : Bytes → Option Amount
amount_of [] = None
amount_of (b ∷ rest) = if b == 45 then down_of (number_of (2 ^ 63 - 1) rest) else up_of (number_of (2 ^ 63 - 1) (b ∷ rest))

-- the other way
abbrev pub turned : Amount → Amount
turned (amounts.Up size) = amounts.Down size
turned (amounts.Down size) = amounts.Up size

-- the index of a column that a field is: 0 to 15
abbrev pub column_of : Bytes → Option ℕ
column_of [] = None
column_of (b ∷ []) = if is_digit b then Some (b - 48) else None
column_of (b ∷ c ∷ []) = if b == 49 && nat_le 48 c && nat_le c 53 then Some (c - 38) else None
column_of (b ∷ c ∷ d ∷ more) = None

abbrev pub is_some : Option ℕ → Bool
is_some None = false
is_some (Some i) = true

-- each first word of a pair is a field
abbrev pub are_fields : List Bytes → Bool
are_fields [] = true
are_fields (field ∷ []) = true
are_fields (field ∷ value ∷ rest) = is_some (column_of field) && are_fields rest

-- a word that begins with a slash, as a path does
abbrev pub begins_path : Bytes → Bool
begins_path [] = false
begins_path (b ∷ rest) = b == 47
