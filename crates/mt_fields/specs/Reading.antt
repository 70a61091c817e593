-- Reading fields from left to right: for the functions that do it, whose callers see the spellings alone.
use Rattle.std.specs.Prelude.{◌≡◌, ℕ, zero, suc, List, [], ◌∷◌, length, take, drop, Option, Some, None, Result, Ok, Err, nat_lt, if◌then◌else◌}
use Rattle.std.specs.Int.{Width, w16, byte_len, from_be_bytes}
use Rattle.mt_fields.specs.{declared.fault.DecodeFault.DecodeFault, Fields.Bytes}
use Rattle.mt_fields.specs.declared.fault.DecodeFault.TheVariants as faults

-- a step and, where it gives something, the next
infixl 10 ◌>>=◌
abbrev pub ◌>>=◌ : {A B : Type 0} → Option A → (A → Option B) → Option B
None >>= f = None
(Some x) >>= f = f x

-- why reading gives nothing: none stands there, or memory ran out
abbrev pub Fails : {Y : Type 0} → DecodeFault → Option Y → Type 0
Fails faults.Memory read = Unit {0}
Fails faults.Bad read = read ≡ None

-- what a function returned, seen by view, is what reading gives, unless memory ran out
abbrev pub Gives : {X Y : Type 0} → (X → Y) → Result X DecodeFault → Option Y → Type 0
Gives view (Ok x) read = read ≡ Some (view x)
Gives view (Err e) read = Fails e read

-- a byte; each field is a value and the bytes behind it
abbrev pub byte_at : Bytes → Option (ℕ × Bytes)
byte_at [] = None
byte_at (b ∷ rest) = Some (b, rest)

-- a number
abbrev pub number_at : Width → Bytes → Option (ℕ × Bytes)
number_at w bytes =
    if nat_lt (length bytes) (byte_len w) then None else
    Some (from_be_bytes w (take (byte_len w) bytes), drop (byte_len w) bytes)

-- so many bytes
abbrev pub taken_at : ℕ → Bytes → Option (Bytes × Bytes)
taken_at n bytes = if nat_lt (length bytes) n then None else Some (take n bytes, drop n bytes)

-- a string
unfoldable pub string_at : Bytes → Option (Bytes × Bytes)
string_at bytes = do
  n ← number_at w16 bytes
  taken_at n.0 n.1

-- so many items, one after the other
unfoldable pub each_at : {A : Type 0} → (Bytes → Option (A × Bytes)) → ℕ → Bytes → Option (List A × Bytes)
each_at item zero bytes = Some ([], bytes)
each_at item (suc n) bytes = do
  first ← item bytes
  others ← each_at item n first.1
  Some (first.0 ∷ others.0, others.1)
