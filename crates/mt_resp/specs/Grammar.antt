-- How a client spells a command: as an array of bulk strings, or as a line of words.
use Rattle.std.specs.{Prelude.{◌≡◌, ◌≤◌, ◌⊎◌, ℕ, Bool, true, false, not, ◌||◌, ◌==◌, List, [], ◌∷◌, ◌++◌, length, decimal}, List.{flat_map, filter, slice_split, AllByRecursion}}

-- bytes, one number each
abbrev pub Bytes : Type 0
Bytes = List ℕ

-- the end of a line: CR LF
abbrev pub line_end : Bytes
line_end = 13 ∷ 10 ∷ []

-- a bulk string: `$`, its length, the end of that line, its bytes, and an end of a line
abbrev pub bulk : Bytes → Bytes
bulk text = 36 ∷ (decimal (length text) ++ (line_end ++ (text ++ line_end)))

-- the spelling that every client library uses: `*`, how many words there are, and each as a bulk string
abbrev pub array : List Bytes → Bytes
array words = 42 ∷ (decimal (length words) ++ (line_end ++ flat_map bulk words))

-- a tab, CR or a space stands between the words of a line
abbrev pub is_gap : ℕ → Bool
is_gap byte = byte == 9 || byte == 13 || byte == 32

-- a line has no NUL, and no quote, since nothing is quoted
abbrev pub is_barred : ℕ → Bool
is_barred byte = byte == 0 || byte == 34 || byte == 39

abbrev pub is_empty : Bytes → Bool
is_empty [] = true
is_empty (byte ∷ bytes) = false

-- the words of a line: what stands between its gaps, unless that is empty
abbrev pub words_of : Bytes → List Bytes
words_of line = filter (λ word. not (is_empty word)) (slice_split is_gap line)

-- a line begins with no `*`
abbrev pub is_array : Bytes → Bool
is_array [] = false
is_array (byte ∷ bytes) = byte == 42

-- a byte of a line
pub record IsPlain (byte : ℕ) : Type 0 where
  pub inside : (byte == 10) ≡ false
  pub taken : is_barred byte ≡ false

-- a line of these words, with its end, LF
pub record IsLine (text : Bytes) (words : List Bytes) : Type 0 where
  pub line : Bytes
  pub text_is : text ≡ line ++ 10 ∷ []
  pub words_are : words ≡ words_of line
  pub plain : AllByRecursion IsPlain line
  pub no_array : is_array line ≡ false

-- a text spells a command: it is an array or a line, and within the limits
pub record IsSpelling (text : Bytes) (words : List Bytes) : Type 0 where
  pub form : (text ≡ array words) ⊎ IsLine text words
  pub few : length words ≤ 1024
  pub short : length text ≤ 65536
