-- What the parts of a match give.
use Rattle.std.specs.Prelude.{◌≡◌, ℕ, ◌≤◌, Bool, true, false, [], ◌∷◌, length, drop, ◌==◌, if◌then◌else◌}
use Rattle.mt_resp.specs.{Grammar.Bytes, Patterns.{is_between, is_like}}

-- whether an item of a class has a byte, and the class after the item: a range, or a byte itself
abbrev pub range_item : ℕ → ℕ → Bytes → ℕ → Bool × Bytes
range_item own next [] byte = (byte == own, next ∷ [])
range_item own next (end ∷ rest) byte = if next == 45 then (is_between own end byte, rest) else (byte == own, next ∷ end ∷ rest)

-- the same of an item that begins with this byte, which may be a backslash before another one
abbrev pub class_item : ℕ → Bytes → ℕ → Bool × Bytes
class_item own [] byte = (byte == own, [])
class_item own (next ∷ rest) byte = if own == 92 then (byte == next, rest) else range_item own next rest byte

-- a pattern begins with a star
abbrev pub at_star : Bytes → Bool
at_star [] = false
at_star (a ∷ rest) = a == 42

-- a pattern is at a star, or at its end with the text
abbrev pub Stops : Bytes → Bytes → Type 0
Stops [] text = text ≡ []
Stops (a ∷ rest) text = a ≡ 42

-- so many items of a pattern took as many bytes of a text, and take as many of any text
pub record IsTaken (pattern text others rest : Bytes) : Type 0 where
  pub count : ℕ
  pub cut : rest ≡ drop count text
  pub same : is_like pattern text ≡ is_like others rest
  pub each : (t : Bytes) → is_like pattern t ≡ true → is_like others (drop count t) ≡ true
  pub shorter : length others ≤ length pattern
