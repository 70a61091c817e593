-- Signed numbers of 64 bits: up from 0 by some size, or down by one that isn't 0.
use Rattle.std.specs.Prelude.{ℕ, ◌+◌, ◌-◌, ◌^◌, ◌<◌, ◌≤◌, Bool, [], ◌∷◌, ◌++◌, decimal, Option, Some, None, nat_lt, nat_le, ◌==◌, if◌then◌else◌}
use Rattle.mt_resp.specs.{Grammar.{Bytes, line_end}, Arguments.{number_of, up_of, down_of}, declared.arguments.Amount.Amount}
use Rattle.mt_resp.specs.declared.arguments.Amount.TheVariants as amounts

-- a sign, a number, and the end of the line
abbrev pub number_line : ℕ → ℕ → Bytes
number_line sign n = sign ∷ (decimal n ++ line_end)

-- how a signed number is spelled
abbrev pub spelling : Amount → Bytes
spelling (amounts.Up size) = decimal size
spelling (amounts.Down size) = 45 ∷ decimal size

-- the signed number that a column is, 0 if the column is empty
abbrev pub signed_of : Bytes → Option Amount
signed_of [] = Some (amounts.Up 0)
signed_of (b ∷ rest) = if b == 45 then down_of (number_of (2 ^ 63) rest) else up_of (number_of (2 ^ 63 - 1) (b ∷ rest))

-- a number of 64 bits
abbrev pub in_range : Amount → Bool
in_range (amounts.Up size) = nat_lt size (2 ^ 63)
in_range (amounts.Down size) = nat_le size (2 ^ 63)

-- a number of 64 bits, with one form for 0
abbrev pub IsNumber : Amount → Type 0
IsNumber (amounts.Up size) = size < 2 ^ 63
IsNumber (amounts.Down size) = (0 < size) × (size ≤ 2 ^ 63)

-- so far up, then so far down
abbrev pub difference : ℕ → ℕ → Amount
difference up down = if nat_lt up down then amounts.Down (down - up) else amounts.Up (up - down)

abbrev pub total : Amount → Amount → Amount
total (amounts.Up a) (amounts.Up b) = amounts.Up (a + b)
total (amounts.Up a) (amounts.Down b) = difference a b
total (amounts.Down a) (amounts.Up b) = difference b a
total (amounts.Down a) (amounts.Down b) = amounts.Down (a + b)

-- a number, if it has 64 bits
abbrev pub ranged : Amount → Option Amount
ranged amount = if in_range amount then Some amount else None

-- the sum of two numbers
abbrev pub sum_of : Amount → Amount → Option Amount
sum_of a b = ranged (total a b)

-- how far up a number is, and how far down
abbrev pub ups : Amount → ℕ
ups (amounts.Up size) = size
ups (amounts.Down size) = 0

abbrev pub downs : Amount → ℕ
downs (amounts.Up size) = 0
downs (amounts.Down size) = size
