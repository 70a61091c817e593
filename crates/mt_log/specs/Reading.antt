-- Reading batches from left to right: for the functions that do it, whose callers see the spellings alone.
use Rattle.std.specs.{Prelude.{ℕ, ◌^◌, ◌==◌, Bool, true, not, ◌&&◌, List, [], ◌∷◌, length, Option, Some, None, nat_lt, if◌then◌else◌, false}, Int.{w32, w64}}
use Rattle.mt_rows.specs.{Rows.Bytes, declared.record.Record.Record, declared.record.Batch.Batch, declared.record.Write.TheVariants.{Changed, Removed, Whole}}
use Rattle.mt_rows.specs.declared.record.Write.{Write}
use Rattle.mt_fields.specs.Reading.{◌>>=◌, byte_at, number_at, taken_at, each_at}
use Rattle.mt_row_fields.specs.Reading.{row_at, key_at, change_at}
use Rattle.mt_log.specs.{declared.batch.LogBatch.LogBatch, declared.batch.LogBatch.TheVariants.{Records, Resume, OldRecords}}

-- the whole row of a key, and the columns of it that were changed
unfoldable pub whole_at : Bytes → Option (Write × Bytes)
whole_at bytes = do
  row ← row_at bytes
  Some (Whole row.0, row.1)

unfoldable pub changed_at : Bytes → Option (Write × Bytes)
changed_at bytes = do
  change ← change_at bytes
  Some (Changed change.0, change.1)

-- what became of a key, by its first byte; an old record tells of no changed columns
unfoldable pub write_kind_at : Bool → ℕ → Bytes → Option (Write × Bytes)
write_kind_at old kind rest =
    if kind == 0 then Some (Removed, rest) else
    if kind == 1 then whole_at rest else
    if kind == 2 && not old then changed_at rest else None

unfoldable pub write_at : Bool → Bytes → Option (Write × Bytes)
write_at old bytes = do
  kind ← byte_at bytes
  write_kind_at old kind.0 kind.1

-- a record of these fields
abbrev pub record_of : ℕ → ℕ → Bytes → Write → Record
record_of stamp tenant key write = record { stamp = stamp; tenant = tenant; key = key; write = write }

unfoldable pub record_at : Bool → Bytes → Option (Record × Bytes)
record_at old bytes = do
  stamp ← number_at w64 bytes
  tenant ← number_at w32 stamp.1
  key ← key_at tenant.1
  write ← write_at old key.1
  Some (record_of stamp.0 tenant.0 key.0 write.0, write.1)

-- whether each stamp is over the one before it, the first over `last`, and none over `to`, and keys are user keys
abbrev pub rise_within : ℕ → ℕ → List Record → Bool
rise_within last to [] = true
rise_within last to (r ∷ records) = nat_lt last r.stamp && not (nat_lt to r.stamp) && not (nat_lt 251 (length r.key)) && rise_within r.stamp to records

-- whether steps are in order, and not past the greatest
abbrev pub are_steps : ℕ → ℕ → Bool
are_steps from to = not (nat_lt to from) && not (nat_lt (2 ^ 59) to)

-- whether a step is none past the greatest
abbrev pub is_step : ℕ → Bool
is_step to = not (nat_lt (2 ^ 59) to)

-- a batch of records as it is read: an old one, or not
abbrev pub read_as : Bool → Batch → LogBatch
read_as old b = if old then OldRecords b else Records b

-- its fields, after its first byte
unfoldable pub records_at : Bool → Bytes → Option (LogBatch × Bytes)
records_at old bytes = do
  from ← number_at w64 bytes
  to ← number_at w64 from.1
  count ← number_at w32 to.1
  records ← each_at (record_at old) count.0 count.1
  if is_step to.0 then Some (read_as old (record { from = from.0; to = to.0; records = records.0 }), records.1) else None

-- a resume batch, behind its first byte
unfoldable pub resume_at : Bytes → Option (LogBatch × Bytes)
resume_at bytes = do
  from ← number_at w64 bytes
  to ← number_at w64 from.1
  kept ← number_at w64 to.1
  if is_step to.0 then Some (Resume from.0 to.0 kept.0, kept.1) else None

-- by its first byte, in the format of this number
unfoldable pub batch_kind_at : ℕ → ℕ → Bytes → Option (LogBatch × Bytes)
batch_kind_at version kind rest =
    if kind == 0 && version == 1 then records_at true rest else
    if kind == 1 then resume_at rest else
    if kind == 2 then records_at false rest else None

-- a batch that takes all of the bytes
unfoldable pub batch_in : ℕ → Bytes → Option LogBatch
batch_in version bytes = do
  kind ← byte_at bytes
  b ← batch_kind_at version kind.0 kind.1
  if length b.1 == 0 then Some b.0 else None

-- a batch behind its length
unfoldable pub batch_at : ℕ → Bytes → Option (LogBatch × Bytes)
batch_at version bytes = do
  n ← number_at w32 bytes
  body ← taken_at n.0 n.1
  b ← batch_in version body.0
  Some (b, body.1)
