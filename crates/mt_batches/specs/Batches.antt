-- What a worker's batch is before its length is asked for: its steps, its stamps, and the limits of its records.
use Rattle.std.specs.{Prelude.{◌≡◌, ◌⊎◌, ℕ, ◌<◌, ◌≤◌, ◌^◌, List, length}, List.All}
use Rattle.mt_rows.specs.{Rows.IsRow, Commands.IsKey, Limits.AreRecords, declared.record.Record.Record, declared.record.Batch.Batch, Changes.IsChange}
use Rattle.mt_rows.specs.{declared.record.Write.TheVariants.{Changed, Removed, Whole}, declared.record.Write.Write}

-- a write within its limits
abbrev pub IsWrite : Write → Type 0
IsWrite Removed = Unit {0}
IsWrite (Whole row) = IsRow row
IsWrite (Changed change) = IsChange change

-- a record whose fields have their limits
pub record IsRecord (r : Record) : Type 0 where
  pub stamp : r.stamp < 2 ^ 64
  pub tenant : r.tenant < 2 ^ 32
  pub key : IsKey r.key
  pub write : IsWrite r.write

-- the records of a batch: stamps rise strictly, each over `from` and at most `to`
pub record AreLogged (from to : ℕ) (records : List Record) : Type 0 where
  pub limits : AreRecords records
  pub within : All (λ r. (from < r.stamp) × (r.stamp ≤ to)) records
  pub each : All IsRecord records

-- a batch in order: so are its steps, its records lie within them, and each has its limits
pub record IsInOrder (b : Batch) : Type 0 where
  pub order : b.from ≤ b.to
  pub last : b.to ≤ 2 ^ 59
  pub records : AreLogged b.from b.to b.records

-- a batch as a drain gives it: in order, and of at most 4,096 records, so that any log takes it
pub record IsBounded (b : Batch) : Type 0 where
  pub in_order : IsInOrder b
  pub few : length b.records ≤ 4096

-- a batch that brings a log on towards a step: it goes up to there at least, or it is full
abbrev pub BringsOn : ℕ → Batch → Type 0
BringsOn step b = (step ≤ b.to) ⊎ (length b.records ≡ 4096)
