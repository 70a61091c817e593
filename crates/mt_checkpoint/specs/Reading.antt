-- Reading the items of a checkpoint from left to right: for the functions that do it, whose callers see the spellings alone.
use Rattle.std.specs.Prelude.{◌≡◌, ℕ, ◌+◌, ◌^◌, ◌<◌, ◌≤◌, ◌==◌, Bool, true, List, [], ◌++◌, length, drop, Option, Some, None, if◌then◌else◌}
use Rattle.std.specs.{Int.{w32, w64}, List.{flat_map, AllByRecursion}}
use Rattle.mt_rows.specs.{Rows.{Bytes, Columns}, declared.record.TenantPair.TenantPair}
use Rattle.mt_fields.specs.Reading.{◌>>=◌, byte_at, number_at}
use Rattle.mt_row_fields.specs.Reading.{row_at, key_at}
use Rattle.mt_checkpoint.specs.{declared.reader.Head.Head, declared.reader.Item.Item, declared.reader.Item.TheVariants.{Pair, Last}}
use Rattle.mt_checkpoint.specs.{declared.reader.Stop.Stop, Format.{IsVersion, head_bytes, entry_bytes, last_bytes}}
use Rattle.mt_checkpoint.specs.Checkpoints.{IsPair}
use Rattle.mt_checkpoint.specs.declared.reader.Stop.TheVariants as stops

-- a pair that an entry after this head tells: in format 1 its stamp is the number of steps before the walk
pub record IsEntry (head : Head) (p : TenantPair) : Type 0 where
  pub pair : IsPair p
  pub stamp : head.version ≡ 1 → p.row.stamp ≡ head.first

-- an item's bytes after a head, and its limits
abbrev pub item_bytes : Head → Item → Bytes
item_bytes head (Pair p) = entry_bytes head.version p
item_bytes head (Last n) = last_bytes n

abbrev pub IsItem : Head → Item → Type 0
IsItem head (Pair p) = IsEntry head p
IsItem head (Last n) = n < 2 ^ 64

-- a pair of these fields
abbrev pub pair_from : ℕ → Bytes → ℕ → Columns → TenantPair
pair_from tenant key stamp row = record { tenant = tenant; key = key; row = record { stamp = stamp; row = row } }

-- a row's stamp, by the head in format 1
unfoldable pub stamp_at : Head → Bytes → Option (ℕ × Bytes)
stamp_at head bytes = if head.version == 1 then Some (head.first, bytes) else number_at w64 bytes

unfoldable pub pair_at : Head → Bytes → Option (Item × Bytes)
pair_at head bytes = do
  tenant ← number_at w32 bytes
  key ← key_at tenant.1
  stamp ← stamp_at head key.1
  row ← row_at stamp.1
  Some (Pair (pair_from tenant.0 key.0 stamp.0 row.0), row.1)

unfoldable pub last_at : Bytes → Option (Item × Bytes)
last_at bytes = do
  last ← number_at w64 bytes
  Some (Last last.0, last.1)

-- an item, by its first byte
unfoldable pub item_kind_at : Head → ℕ → Bytes → Option (Item × Bytes)
item_kind_at head kind rest =
    if kind == 1 then pair_at head rest else
    if kind == 2 then last_at rest else None

unfoldable pub item_at : Head → Bytes → Option (Item × Bytes)
item_at head bytes = do
  kind ← byte_at bytes
  item_kind_at head kind.0 kind.1

-- a head in either format
pub record IsHead (head : Head) : Type 0 where
  pub known : IsVersion head.version
  pub first : head.first < 2 ^ 64

-- no head stands at the front
abbrev pub HasNoHead : Bytes → Type 0
HasNoHead bytes = (head : Head) (more : Bytes) → IsHead head → bytes ≡ head_bytes head.version head.first ++ more → ⊥

-- no item does, as one after this head
abbrev pub HasNoItem : Head → Bytes → Type 0
HasNoItem head bytes = (x : Item) (more : Bytes) → IsItem head x → bytes ≡ item_bytes head x ++ more → ⊥

-- what follows the entries of some bytes; more of them may stand there
abbrev pub StopsAt : Head → Bytes → Stop → Type 0
StopsAt head rest stops.More = Unit {0}
StopsAt head rest (stops.Last last) = (last < 2 ^ 64) × ((more : Bytes) × (rest ≡ last_bytes last ++ more))
StopsAt head rest stops.Bad = HasNoItem head rest

-- pairs were taken from a window, and this is left of it
pub record HasTaken (head : Head) (window : Bytes) (pairs : List TenantPair) (rest : Bytes) : Type 0 where
  pub each : AllByRecursion (IsEntry head) pairs
  pub parts : window ≡ flat_map (entry_bytes head.version) pairs ++ rest

-- entries of so many bytes at the front of some, and what follows them
pub record AreTaken (head : Head) (text : Bytes) (pairs : List TenantPair) (used : ℕ) (stop : Stop) : Type 0 where
  pub parts : text ≡ flat_map (entry_bytes head.version) pairs ++ drop used text
  pub stops : StopsAt head (drop used text) stop

-- what a window gives: its pairs, how many bytes they have, and what follows them
pub record Takes (head : Head) (window : Bytes) (whole : Bool) (pairs : List TenantPair) (used : ℕ) (stop : Stop) : Type 0 where
  pub each : AllByRecursion (IsEntry head) pairs
  pub within : used ≤ length window
  pub some : stop ≡ stops.More → (whole ≡ true → ⊥) × (length window < used + 16683)
  pub told : (behind : Bytes) → (whole ≡ true → behind ≡ []) → AreTaken head (window ++ behind) pairs used stop
