-- Reading a request's body from left to right: for the functions that do it, whose callers see the spellings alone.
use Rattle.std.specs.{Prelude.{ℕ, zero, suc, Bool, true, false, List, [], ◌∷◌, length, Option, Some, None, ◌==◌, if◌then◌else◌}, Int.{w32, w64}}
use Rattle.mt_rows.specs.{Rows.Bytes, Changes.Named, declared.command.Command.TheVariants.{Get, Put, Remove, Scan, PutIf}}
use Rattle.mt_fields.specs.Reading.{◌>>=◌, byte_at, number_at, taken_at, string_at, each_at}
use Rattle.mt_wire.specs.{declared.message.Request.Request, declared.message.Request.TheVariants.{Open, Call, Settle, GetStamped}}

-- where a scan starts
abbrev pub start_at : Bytes → Option (Bool × Bytes)
start_at [] = None
start_at (zero ∷ rest) = Some (false, rest)
start_at (suc zero ∷ rest) = Some (true, rest)
start_at (suc (suc b) ∷ rest) = None

-- the indexes of columns that are asked for
unfoldable pub asked_at : Bytes → Option (List ℕ × Bytes)
asked_at bytes = do
  n ← byte_at bytes
  taken_at n.0 n.1

-- a column by its index
unfoldable pub named_column_at : Bytes → Option ((ℕ × Bytes) × Bytes)
named_column_at bytes = do
  i ← byte_at bytes
  text ← string_at i.1
  Some ((i.0, text.0), text.1)

-- columns by index
unfoldable pub named_columns_at : Bytes → Option (Named × Bytes)
named_columns_at bytes = do
  n ← byte_at bytes
  each_at named_column_at n.0 n.1

-- the fields of each request
unfoldable pub open_at : Bytes → Option (Request × Bytes)
open_at bytes = do
  tenant ← number_at w32 bytes
  Some (Open tenant.0, tenant.1)

unfoldable pub get_at : Bytes → Option (Request × Bytes)
get_at bytes = do
  key ← string_at bytes
  columns ← asked_at key.1
  Some (Call (Get key.0 columns.0), columns.1)

unfoldable pub put_at : Bytes → Option (Request × Bytes)
put_at bytes = do
  key ← string_at bytes
  cs ← named_columns_at key.1
  Some (Call (Put key.0 cs.0), cs.1)

unfoldable pub put_if_at : Bytes → Option (Request × Bytes)
put_if_at bytes = do
  key ← string_at bytes
  stamp ← number_at w64 key.1
  cs ← named_columns_at stamp.1
  Some (Call (PutIf key.0 stamp.0 cs.0), cs.1)

unfoldable pub get_stamped_at : Bytes → Option (Request × Bytes)
get_stamped_at bytes = do
  key ← string_at bytes
  columns ← asked_at key.1
  Some (GetStamped key.0 columns.0, columns.1)

unfoldable pub remove_at : Bytes → Option (Request × Bytes)
remove_at bytes = do
  key ← string_at bytes
  Some (Call (Remove key.0), key.1)

unfoldable pub scan_at : Bytes → Option (Request × Bytes)
scan_at bytes = do
  after ← start_at bytes
  from ← string_at after.1
  count ← byte_at from.1
  columns ← asked_at count.1
  Some (Call (Scan from.0 after.0 count.0 columns.0), columns.1)

-- by its first byte
unfoldable pub kind_at : ℕ → Bytes → Option (Request × Bytes)
kind_at kind rest =
    if kind == 1 then open_at rest else
    if kind == 2 then get_at rest else
    if kind == 3 then put_at rest else
    if kind == 4 then remove_at rest else
    if kind == 5 then scan_at rest else
    if kind == 6 then Some (Settle, rest) else
    if kind == 7 then get_stamped_at rest else
    if kind == 8 then put_if_at rest else None

-- a request that takes all of the bytes
unfoldable pub request_in : Bytes → Option Request
request_in bytes = do
  kind ← byte_at bytes
  r ← kind_at kind.0 kind.1
  if length r.1 == 0 then Some r.0 else None
