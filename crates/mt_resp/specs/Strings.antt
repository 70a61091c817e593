-- Strings longer than a column: a string is the columns of a row from the first on, up to and with the first that is shorter than 1,024 bytes.
use Rattle.std.specs.Prelude.{ℕ, zero, suc, ◌/◌, [], ◌∷◌, ◌++◌, length, take, drop, nat_lt, if◌then◌else◌}
use Rattle.mt_rows.specs.Rows.{Bytes, Columns}

-- so many pieces of 1,024 bytes, and what is left
abbrev pub pieces : ℕ → Bytes → Columns
pieces zero value = value ∷ []
pieces (suc n) value = take 1024 value ∷ pieces n (drop 1024 value)

-- the columns of a string
unfoldable pub columns_of : Bytes → Columns
columns_of value = pieces (length value / 1024) value

-- the string of these columns
abbrev pub value_of : Columns → Bytes
value_of [] = []
value_of (column ∷ columns) = if nat_lt (length column) 1024 then column else column ++ value_of columns
