-- How a row and changed columns are spelled. A key is a string of `mt_fields`.
use Rattle.std.specs.{Prelude.{◌∷◌, ℕ, length}, List.flat_map}
use Rattle.mt_rows.specs.{Rows.{Bytes, Columns}, Changes.Named}
use Rattle.mt_fields.specs.Fields.{string}

-- a row: a byte of count, and that many columns
abbrev pub row_bytes : Columns → Bytes
row_bytes row = length row ∷ flat_map string row

-- a column by its index
abbrev pub named_bytes : ℕ × Bytes → Bytes
named_bytes c = c.0 ∷ string c.1

-- changed columns: a byte of count, and that many columns by their indexes
abbrev pub change_bytes : Named → Bytes
change_bytes change = length change ∷ flat_map named_bytes change
