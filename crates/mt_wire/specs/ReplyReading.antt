-- Reading a reply's body from left to right: for the functions that do it, whose callers see the spellings alone.
use Rattle.std.specs.{Prelude.{ℕ, ◌-◌, Bool, ◌&&◌, List, length, Option, Some, None, nat_lt, ◌==◌, if◌then◌else◌}, List.list_all, Int.w64, Ordering.nat_cmp}
use Rattle.std.specs.{Cmp.Lexicographic.slice_cmp, FinMap.is_sorted}
use Rattle.mt_rows.specs.Rows.{Bytes, Columns}
use Rattle.mt_fields.specs.Reading.{◌>>=◌, byte_at, number_at, string_at, each_at}
use Rattle.mt_row_fields.specs.Reading.{row_at}
use Rattle.mt_wire.specs.{declared.message.WireReply.WireReply, declared.message.WireReply.TheVariants.{Opened, Told, Settled, Refused}}
use Rattle.mt_wire.specs.declared.message.Shown.TheVariants.{Absent, FoundStamped, Found, Full, New, NoMemory, Pairs, Removed, Replaced, Stale}

-- whether a scan may show these pairs
abbrev pub are_pairs : List (Bytes × Columns) → Bool
are_pairs pairs = nat_lt (length pairs) 65 && list_all (λ p. nat_lt (length p.0) 252) pairs && is_sorted (slice_cmp nat_cmp) pairs

-- a shown pair
unfoldable pub pair_at : Bytes → Option ((Bytes × Columns) × Bytes)
pair_at bytes = do
  key ← string_at bytes
  row ← row_at key.1
  Some ((key.0, row.0), row.1)

-- the pairs that a scan shows
unfoldable pub pairs_at : Bytes → Option (List (Bytes × Columns) × Bytes)
pairs_at bytes = do
  n ← byte_at bytes
  pairs ← each_at pair_at n.0 n.1
  if are_pairs pairs.0 then Some pairs else None

-- the fields of a row found, with its stamp or without, of a stamp, of a scan's pairs and of a number
unfoldable pub found_at : Bytes → Option (WireReply × Bytes)
found_at bytes = do
  row ← row_at bytes
  Some (Told (Found row.0), row.1)

unfoldable pub found_stamped_at : Bytes → Option (WireReply × Bytes)
found_stamped_at bytes = do
  stamp ← number_at w64 bytes
  row ← row_at stamp.1
  Some (Told (FoundStamped (record { stamp = stamp.0; row = row.0 })), row.1)

unfoldable pub stale_at : Bytes → Option (WireReply × Bytes)
stale_at bytes = do
  stamp ← number_at w64 bytes
  Some (Told (Stale stamp.0), stamp.1)

unfoldable pub scanned_at : Bytes → Option (WireReply × Bytes)
scanned_at bytes = do
  pairs ← pairs_at bytes
  Some (Told (Pairs pairs.0), pairs.1)

unfoldable pub settled_at : Bytes → Option (WireReply × Bytes)
settled_at bytes = do
  number ← number_at w64 bytes
  Some (Settled number.0, number.1)

-- by its first byte
unfoldable pub reply_kind_at : ℕ → Bytes → Option (WireReply × Bytes)
reply_kind_at kind rest =
    if kind == 0 then Some (Opened, rest) else
    if kind == 1 then Some (Told Absent, rest) else
    if kind == 2 then found_at rest else
    if kind == 3 then Some (Told New, rest) else
    if kind == 4 then Some (Told Replaced, rest) else
    if kind == 5 then Some (Told Removed, rest) else
    if kind == 6 then scanned_at rest else
    if kind == 7 then settled_at rest else
    if kind == 8 then Some (Told Full, rest) else
    if kind == 9 then Some (Told NoMemory, rest) else
    if kind == 10 then found_stamped_at rest else
    if kind == 11 then stale_at rest else
    if nat_lt 128 kind then Some (Refused (kind - 128), rest) else None

-- a reply that takes all of the bytes
unfoldable pub reply_in : Bytes → Option WireReply
reply_in bytes = do
  kind ← byte_at bytes
  r ← reply_kind_at kind.0 kind.1
  if length r.1 == 0 then Some r.0 else None
