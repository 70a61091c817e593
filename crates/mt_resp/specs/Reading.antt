-- Reading from left to right: what stands at the front of some bytes, and what is left after it.
use Rattle.std.specs.Prelude.{ℕ, zero, suc, ◌+◌, ◌-◌, ◌*◌, Bool, ◌&&◌, List, [], ◌∷◌, ◌++◌, length, take, drop, Result, Ok, Err, nat_lt, nat_le, ◌==◌, if◌then◌else◌}
use Rattle.mt_resp.specs.{declared.stop.Stop.Stop, declared.stop.Fault.Fault, Grammar.{Bytes, is_gap, is_barred}, Steps.◌>>=◌}
use Rattle.mt_resp.specs.declared.stop.Stop.TheVariants as stops
use Rattle.mt_resp.specs.declared.stop.Fault.TheVariants as faults

-- a byte that must come first
abbrev pub sign_at : ℕ → Bytes → Result Bytes Stop
sign_at sign [] = Err stops.Partial
sign_at sign (b ∷ rest) = if b == sign then Ok rest else Err (stops.Bad faults.Spelling)

-- the end of a line
unfoldable pub end_at : Bytes → Result Bytes Stop
end_at bytes = do
  rest ← sign_at 13 bytes
  sign_at 10 rest

-- so many bytes
abbrev pub taken_at : ℕ → Bytes → Result (Bytes × Bytes) Stop
taken_at n bytes = if nat_lt (length bytes) n then Err stops.Partial else Ok (take n bytes, drop n bytes)

abbrev pub is_digit : ℕ → Bool
is_digit b = nat_le 48 b && nat_le b 57

-- a value, and the end of its line
abbrev pub ended : {A : Type 0} → A → Bytes → Result (A × Bytes) Stop
ended value bytes = end_at bytes >>= λ rest. Ok (value, rest)

-- the digits that are left of a number, and the end of its line; past `most` there is this fault
abbrev pub digits_at : ℕ → Fault → ℕ → Bytes → Result (ℕ × Bytes) Stop
digits_at most over value [] = Err stops.Partial
digits_at most over value (b ∷ rest) =
    if is_digit b
    then (if nat_lt most (value * 10 + (b - 48)) then Err (stops.Bad over) else digits_at most over (value * 10 + (b - 48)) rest)
    else ended value (b ∷ rest)

-- a number of at most `most` with no zero before it, on a line of its own
abbrev pub number_at : ℕ → Fault → Bytes → Result (ℕ × Bytes) Stop
number_at most over [] = Err stops.Partial
number_at most over (b ∷ rest) =
    if b == 48 then ended 0 rest else
    if is_digit b then digits_at most over (b - 48) rest else Err (stops.Bad faults.Spelling)

-- a word: a bulk string
unfoldable pub word_at : Bytes → Result (Bytes × Bytes) Stop
word_at bytes = do
  sized ← sign_at 36 bytes
  n ← number_at 65536 faults.Long sized
  text ← taken_at n.0 n.1
  ended text.0 text.1

-- so many items, one after the other
unfoldable pub each_at : {A : Type 0} → (Bytes → Result (A × Bytes) Stop) → ℕ → Bytes → Result (List A × Bytes) Stop
each_at item zero bytes = Ok ([], bytes)
each_at item (suc n) bytes = do
  first ← item bytes
  others ← each_at item n first.1
  Ok (first.0 ∷ others.0, others.1)

-- the words of an array, after its sign
unfoldable pub array_at : Bytes → Result (List Bytes × Bytes) Stop
array_at bytes = do
  n ← number_at 1024 faults.ManyWords bytes
  each_at word_at n.0 n.1

-- a word that has come so far, if it has, before others
abbrev pub with_word : Bytes → List Bytes → List Bytes
with_word [] words = words
with_word (b ∷ bs) words = (b ∷ bs) ∷ words

-- the words of a line up to LF, of which `word` has come so far
abbrev pub line_words : Bytes → Bytes → Result (List Bytes × Bytes) Stop
line_words word [] = Err stops.Partial
line_words word (b ∷ rest) =
    if b == 10 then Ok (with_word word [], rest) else
    if is_gap b then (line_words [] rest >>= λ x. Ok (with_word word x.0, x.1)) else
    if is_barred b then Err (stops.Bad faults.Spelling) else line_words (word ++ b ∷ []) rest

-- these words, if they are few enough
abbrev pub few_words : List Bytes × Bytes → Result (List Bytes × Bytes) Stop
few_words x = if nat_lt 1024 (length x.0) then Err (stops.Bad faults.ManyWords) else Ok x

-- the words of a line
unfoldable pub line_at : Bytes → Result (List Bytes × Bytes) Stop
line_at bytes = line_words [] bytes >>= few_words
