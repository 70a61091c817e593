-- What is found for the options one by one: numbers, a flag, and how many connections a worker serves.
use Rattle.std.specs.Prelude.{◌≡◌, ◌⊎◌, ℕ, ◌<◌, ◌≤◌, Bool, true, false, List, Some, None, codes}
use Rattle.std.specs.Str.Parse.{IsNumeral, digits_value, without_leading_plus}
use Rattle.clap.specs.Words.{Row, Text}
use Rattle.mt_command_line.specs.CommandLine.{given_for}

-- the number is the one that is found for the option, in decimal digits, and lies from `least` to `most`
abbrev pub IsGiven : Text → ℕ → ℕ → List Row → ℕ → Type 0
IsGiven name least most rows number =
    (text : Text) × (given_for name rows ≡ Some text) × IsNumeral 10 (without_leading_plus text)
    × (number ≡ digits_value 10 (without_leading_plus text)) × (least ≤ number) × (number ≤ most)

-- a flag is set where `true` is found for it, and isn't where `false` is, or nothing
pub record IsFlag (name : Text) (rows : List Row) (is_set : Bool) : Type 0 where
  pub set : given_for name rows ≡ Some (codes "true") → is_set ≡ true
  pub other : given_for name rows ≡ Some (codes "false") → is_set ≡ false
  pub none : given_for name rows ≡ None → is_set ≡ false

-- the number is the one that is found for the option, up to `most`, or 0 if none is found
abbrev pub IsGivenOrZero : Text → ℕ → List Row → ℕ → Type 0
IsGivenOrZero name most rows number = IsGiven name 0 most rows number ⊎ ((given_for name rows ≡ None) × (number ≡ 0))

-- something is found for the option
abbrev pub IsThere : Text → List Row → Type 0
IsThere name rows = (text : Text) × (given_for name rows ≡ Some text)

-- A silent connection is ended after so many seconds as are found for `--idle`. A worker that serves one connection at a time ends none, and then 0 are found.
abbrev pub EndsSilent : List Row → ℕ → ℕ → Type 0
EndsSilent rows connections idle = IsGiven (codes "idle") 0 4294967 rows idle × (connections ≡ 1 → idle ≡ 0)

-- more than 0 seconds are found for `--idle`, and a worker serves one connection at a time
abbrev pub IsIdleAlone : List Row → Type 0
IsIdleAlone rows = IsGiven (codes "connections") 1 65536 rows 1 × (idle : ℕ) × IsGiven (codes "idle") 0 4294967 rows idle × (0 < idle)
