-- What is kept of the line that is being read.
use Rattle.std.specs.{Prelude.{ℕ, Bool, true, ◌||◌, cond, nat_lt, List, [], ◌∷◌, ◌++◌, length, take, Option, Some, None}, Io.BufRead.strip_last}

-- the front of a line: at most its first 65,537 bytes, and whether it has more
pub record Front : Type 0 where
  pub bytes : List ℕ
  pub cut : Bool

-- the front of a line
abbrev pub front_of : List ℕ → Front
front_of line = record { bytes = take 65537 line; cut = nat_lt 65537 (length line) }

-- without a carriage return at the end of the line
abbrev pub without_return : Front → Front
without_return front = record { bytes = cond front.cut front.bytes (strip_last 13 front.bytes); cut = front.cut }

-- the whole line, where it is not too long
abbrev pub whole_line : Front → Option (List ℕ)
whole_line front = cond (front.cut || nat_lt 65536 (length front.bytes)) None (Some front.bytes)

-- the front with one byte more
abbrev pub with_byte : Front → ℕ → Front
with_byte front byte =
    cond (nat_lt (length front.bytes) 65537) (record { bytes = front.bytes ++ byte ∷ []; cut = front.cut }) (record { bytes = front.bytes; cut = true })
