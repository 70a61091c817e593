-- The commands of the store that are made of words.
use Rattle.std.specs.{Prelude.{ℕ, zero, suc, ◌+◌, Bool, false, List, [], ◌∷◌, ◌++◌, length, Option, Some, None, nat_lt, ◌==◌, if◌then◌else◌}}
use Rattle.mt_rows.specs.{Changes.{Named, indexed}, declared.command.Command.Command}
use Rattle.mt_rows.specs.declared.command.Command.TheVariants as commands
use Rattle.mt_resp.specs.{Grammar.Bytes, Strings.columns_of, Arguments.column_of}

-- a get of the whole row
abbrev pub get : Bytes → Command
get key = commands.Get key []

-- what a put of a string writes, if the string is no longer than strings may be
abbrev pub change_of : Bytes → Option Named
change_of value = if nat_lt 15359 (length value) then None else Some (indexed 0 (columns_of value))

-- a put, or one that asks for a stamp
abbrev pub put_of : Option ℕ → Bytes → Named → Command
put_of None key change = commands.Put key change
put_of (Some stamp) key change = commands.PutIf key stamp change

-- puts of keys, each with its value, if each has one that isn't too long
abbrev pub put_list : List Command → Option (List Command) → Option (List Command)
put_list front None = None
put_list front (Some cs) = Some (front ++ cs)

abbrev pub put_first : Bytes → Option Named → Option (List Command) → Option (List Command)
put_first key None others = None
put_first key (Some change) others = put_list (commands.Put key change ∷ []) others

abbrev pub puts : List Bytes → Option (List Command)
puts [] = Some []
puts (key ∷ []) = None
puts (key ∷ value ∷ rest) = put_first key (change_of value) (puts rest)

-- a column has this index
abbrev pub is_column : ℕ → Option ℕ → Bool
is_column index None = false
is_column index (Some i) = i == index

-- the last value of a field, after what was found before
abbrev pub last_of : ℕ → Option Bytes → List Bytes → Option Bytes
last_of index found [] = found
last_of index found (field ∷ []) = found
last_of index found (field ∷ value ∷ rest) = last_of index (if is_column index (column_of field) then Some value else found) rest

abbrev pub field_value : ℕ → List Bytes → Option Bytes
field_value index pairs = last_of index None pairs

abbrev pub with_column : ℕ → Option Bytes → Named → Named
with_column index None named = named
with_column index (Some value) named = (index, value) ∷ named

-- so many columns from an index on, each with its last value
unfoldable pub named_from : ℕ → ℕ → List Bytes → Named
named_from zero index pairs = []
named_from (suc n) index pairs = with_column index (field_value index pairs) (named_from n (index + 1) pairs)

abbrev pub column_before : Option ℕ → Option (List ℕ) → Option (List ℕ)
column_before None others = None
column_before (Some i) None = None
column_before (Some i) (Some is) = Some (i ∷ is)

-- the columns of fields that are all indexes
abbrev pub columns_in : List Bytes → Option (List ℕ)
columns_in [] = Some []
columns_in (field ∷ fields) = column_before (column_of field) (columns_in fields)
