-- Reading keys, rows and changed columns from left to right: for the functions that do it, and for the readers of what is made of them.
-- Callers see the spellings alone.
use Rattle.std.specs.{Prelude.{ℕ, Bool, not, ◌&&◌, length, Option, Some, None, nat_lt, if◌then◌else◌}, List.list_all}
use Rattle.mt_rows.specs.{Rows.{Bytes, Columns, rise_from}, Changes.{Named, indexes_of}}
use Rattle.mt_fields.specs.Reading.{◌>>=◌, byte_at, string_at, each_at}

-- whether columns make a row
abbrev pub is_row : Columns → Bool
is_row columns = nat_lt 0 (length columns) && nat_lt (length columns) 17 && list_all (λ c. nat_lt (length c) 1025) columns

-- a row
unfoldable pub row_at : Bytes → Option (Columns × Bytes)
row_at bytes = do
  n ← byte_at bytes
  columns ← each_at string_at n.0 n.1
  if is_row columns.0 then Some columns else None

-- whether columns by index are such as a change writes
abbrev pub is_change : Named → Bool
is_change change = nat_lt 0 (length change) && rise_from 0 (indexes_of change) && list_all (λ c. nat_lt (length c.1) 1025) change

-- a column by its index
unfoldable pub named_at : Bytes → Option ((ℕ × Bytes) × Bytes)
named_at bytes = do
  i ← byte_at bytes
  text ← string_at i.1
  Some ((i.0, text.0), text.1)

-- changed columns
unfoldable pub change_at : Bytes → Option (Named × Bytes)
change_at bytes = do
  n ← byte_at bytes
  cs ← each_at named_at n.0 n.1
  if is_change cs.0 then Some cs else None

-- a user key
unfoldable pub key_at : Bytes → Option (Bytes × Bytes)
key_at bytes = do
  key ← string_at bytes
  if not (nat_lt 251 (length key.0)) then Some key else None
