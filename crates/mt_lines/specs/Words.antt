-- The words of a line, and what a word can mean: a number, bytes, a key, a column.
use Rattle.std.specs.Prelude.{◌≡◌, ℕ, ◌+◌, ◌-◌, ◌*◌, Bool, true, false, ◌&&◌, ◌==◌, not, nat_le, nat_lt, if◌then◌else◌, List, [], ◌∷◌, ◌++◌, length, drop, codes, Option, Some, None, Result, Ok, Err}
use Rattle.std.specs.{List.{prefix_len, take_while}, Str.{bytes_eq, all_ascii_digits}}
use Rattle.hex.specs.Hex.{decode_of}
use Rattle.mt_lines.specs.{declared.fault.LineFault.LineFault, declared.fault.LineFault.TheVariants.{BadLine, Memory}}

-- a meaning, and what follows from it
infixl 10 ◌>>=◌
abbrev pub ◌>>=◌ : {A B : Type 0} → Option A → (A → Option B) → Option B
(Some x) >>= f = f x
None >>= f = None

-- What a function returned, seen by view, is the meaning, unless memory ran out.
abbrev pub Misses : {Y : Type 0} → LineFault → Option Y → Type 0
Misses Memory meaning = Unit {0}
Misses BadLine meaning = meaning ≡ None

abbrev pub Means : {X Y : Type 0} → (X → Y) → Result X LineFault → Option Y → Type 0
Means view (Ok x) meaning = meaning ≡ Some (view x)
Means view (Err e) meaning = Misses e meaning

-- a space, and a byte of a word
abbrev pub is_space : ℕ → Bool
is_space byte = byte == 32

abbrev pub is_of_word : ℕ → Bool
is_of_word byte = not (is_space byte)

-- the words that begin in these bytes: each goes from a byte that is no space, and has none right
-- before it, up to the next space. inside: the byte before these is of a word.
abbrev pub words_behind : Bool → List ℕ → List (List ℕ)
words_behind inside [] = []
words_behind inside (byte ∷ bytes) =
    if is_space byte then words_behind false bytes
    else if inside then words_behind true bytes
    else take_while is_of_word (byte ∷ bytes) ∷ words_behind true bytes

-- the words of a line
unfoldable pub words_of : List ℕ → List (List ℕ)
words_of line = words_behind false line

-- the first word, and the others
abbrev pub next : List (List ℕ) → Option (List ℕ × List (List ℕ))
next [] = None
next (word ∷ words) = Some (word, words)

-- no more words
abbrev pub no_more : List (List ℕ) → Option (Unit {0})
no_more [] = Some tt
no_more (word ∷ words) = None

-- the meanings of all words, if each has one
abbrev pub each : {A : Type 0} → (List ℕ → Option A) → List (List ℕ) → Option (List A)
each meaning [] = Some []
each meaning (word ∷ words) = do
  x ← meaning word
  xs ← each meaning words
  Some (x ∷ xs)

-- these in front of what was meant
abbrev pub before : {A : Type 0} → List A → Option (List A) → Option (List A)
before front meant = do
  rest ← meant
  Some (front ++ rest)

-- the number that decimal digits write behind those that write n
abbrev pub digits_behind : ℕ → List ℕ → ℕ
digits_behind n [] = n
digits_behind n (digit ∷ digits) = digits_behind (n * 10 + (digit - 48)) digits

-- one decimal digit or more, and nothing else
abbrev pub is_numeral : List ℕ → Bool
is_numeral word = nat_lt 0 (length word) && all_ascii_digits word

-- the number that a word writes, where it is at most `most`
unfoldable pub number_up_to : ℕ → List ℕ → Option ℕ
number_up_to most word =
    if is_numeral word && nat_le (digits_behind 0 word) most then Some (digits_behind 0 word) else None

-- a name of an operation
unfoldable pub name_word : List ℕ → Option ℕ
name_word word = do
  name ← number_up_to 999999 word
  if nat_lt 0 name then Some name else None

-- a word is this text
abbrev pub is_text : List ℕ → List ℕ → Bool
is_text word text = bytes_eq word text

abbrev pub value_of : {A E : Type 0} → Result A E → Option A
value_of (Ok x) = Some x
value_of (Err e) = None

-- the bytes that pairs of hexadecimal digits write, in either case
unfoldable pub hex_of : List ℕ → Option (List ℕ)
hex_of text = value_of (decode_of text)

-- a key: its bytes, or `-` for the empty one
unfoldable pub key_word : List ℕ → Option (List ℕ)
key_word word = if is_text word (codes "-") then Some [] else hex_of word

-- a byte that isn't `=`
abbrev pub is_no_sign : ℕ → Bool
is_no_sign byte = not (byte == 61)

-- what stands before the first `=`, and what behind it
unfoldable pub parted : List ℕ → Option (List ℕ × List ℕ)
parted word =
    if nat_lt (prefix_len is_no_sign word) (length word) then Some (take_while is_no_sign word, drop (prefix_len is_no_sign word + 1) word) else None

-- a column of a put: its index, `=`, and its bytes, of which there may be none
unfoldable pub column_word : List ℕ → Option (ℕ × List ℕ)
column_word word = do
  parts ← parted word
  index ← number_up_to 255 parts.0
  bytes ← hex_of parts.1
  Some (index, bytes)
