-- Patterns of keys: a star takes any bytes, `?` one byte, a class one of its bytes, `\x` the byte x, and another byte itself.
-- A class that isn't closed goes to the pattern's end, and a backslash at the end takes a backslash.
use Rattle.std.specs.{Prelude.{ℕ, Bool, false, not, ◌&&◌, ◌||◌, List, [], ◌∷◌, Option, Some, None, nat_le, ◌==◌, if◌then◌else◌}, List.{list_any, list_all}}
use Rattle.mt_resp.specs.Grammar.{Bytes}

-- a byte is one of a range, whichever end comes first
abbrev pub is_between : ℕ → ℕ → ℕ → Bool
is_between low high byte = (nat_le low byte && nat_le byte high) || (nat_le high byte && nat_le byte low)

-- whether a class has a byte, of which so much was found before, and the pattern after the class
abbrev pub class_at : ℕ → Bool → Bytes → Bool × Bytes
class_at byte found [] = (found, [])
class_at byte found (a ∷ []) = if a == 93 then (found, []) else (found || byte == a, [])
class_at byte found (a ∷ b ∷ []) =
    if a == 93 then (found, b ∷ []) else
    if a == 92 then (found || byte == b, []) else class_at byte (found || byte == a) (b ∷ [])
class_at byte found (a ∷ b ∷ c ∷ rest) =
    if a == 93 then (found, b ∷ c ∷ rest) else
    if a == 92 then class_at byte (found || byte == b) (c ∷ rest) else
    if b == 45 then class_at byte (found || is_between a c byte) rest else class_at byte (found || byte == a) (b ∷ c ∷ rest)

-- what is left of a pattern if this is so
abbrev pub left_if : Bool → Bytes → Option Bytes
left_if taken rest = if taken then Some rest else None

-- what is left after a class, if it has the byte, or if it begins with `^` and has it not
abbrev pub after_class : Bytes → ℕ → Option Bytes
after_class [] byte = None
after_class (a ∷ rest) byte =
    if a == 94 then left_if (not (class_at byte false rest).0) (class_at byte false rest).1
    else left_if (class_at byte false (a ∷ rest)).0 (class_at byte false (a ∷ rest)).1

-- what is left after a backslash and the byte that it stands before
abbrev pub after_escape : Bytes → ℕ → Option Bytes
after_escape [] byte = left_if (byte == 92) []
after_escape (a ∷ rest) byte = left_if (byte == a) rest

-- what is left of a pattern that begins with no star, if its first item takes the byte
abbrev pub after_item : Bytes → ℕ → Option Bytes
after_item [] byte = None
after_item (a ∷ rest) byte =
    if a == 63 then Some rest else
    if a == 91 then after_class rest byte else
    if a == 92 then after_escape rest byte else left_if (byte == a) rest

abbrev pub or_none : Option Bytes → List Bytes
or_none None = []
or_none (Some rest) = rest ∷ []

-- what may be left of a pattern after it takes a byte: a star stays, or takes nothing
abbrev pub after : Bytes → ℕ → List Bytes
after [] byte = []
after (a ∷ rest) byte = if a == 42 then (a ∷ rest) ∷ after rest byte else or_none (after_item (a ∷ rest) byte)

-- A text is like a pattern: at the text's end stars alone are left; before it the pattern takes the next byte, and something that may
-- be left of it takes the others.
abbrev pub takes : Bytes → Bytes → Bool
takes [] pattern = list_all (λ a. a == 42) pattern
takes (byte ∷ text) pattern = list_any (takes text) (after pattern byte)

abbrev pub is_like : Bytes → Bytes → Bool
is_like pattern text = takes text pattern
