-- What a log says: whose it is, and its batches; and what the batches of its own appends are.
use Rattle.std.specs.{Prelude.{◌≡◌, ℕ, zero, suc, ◌<◌, ◌≤◌, ◌^◌, List, [], ◌∷◌, ◌++◌, map, length}, List.{flat_map, All, AllByRecursion}, List.Sorted.IsStrictlyIncreasing}
use Rattle.mt_rows.specs.{Rows.Bytes, declared.record.Record.Record, declared.record.Batch.Batch, declared.record.Write.TheVariants.{Changed, Removed, Whole}}
use Rattle.mt_rows.specs.declared.record.Write.{Write}
use Rattle.mt_batches.specs.Batches.{IsRecord, AreLogged}
use Rattle.mt_log.specs.{declared.batch.LogBatch.LogBatch, declared.batch.LogBatch.TheVariants.{Records, Resume, OldRecords}, declared.batch.Front.Front}
use Rattle.mt_log.specs.Format.{beginning, body, batch_bytes, IsVersion}

-- a batch of records in the format: it ends at a step, and its numbers, its records and its length fit
pub record IsRecordBatch (b : Batch) : Type 0 where
  pub first : b.from < 2 ^ 64
  pub last : b.to ≤ 2 ^ 59
  pub each : All IsRecord b.records
  pub few : length b.records < 2 ^ 32
  pub short : length (body (Records b)) < 2 ^ 32

-- what an old record may tell: that the key was removed, or its whole row
abbrev pub IsOldWrite : Write → Type 0
IsOldWrite Removed = Unit {0}
IsOldWrite (Whole row) = Unit {0}
IsOldWrite (Changed change) = ⊥

-- a batch of old records in the format: none tells of changed columns
pub record IsOldBatch (b : Batch) : Type 0 where
  pub batch : IsRecordBatch b
  pub old : All (λ r. IsOldWrite r.write) b.records

-- a batch that an append takes: it is in the format, its steps are in order, its stamps rise within them
pub record IsBatch (b : Batch) : Type 0 where
  pub order : b.from ≤ b.to
  pub last : b.to ≤ 2 ^ 59
  pub records : AreLogged b.from b.to b.records
  pub few : length b.records < 2 ^ 32
  pub short : length (body (Records b)) < 2 ^ 32

-- its number of records and its length in bytes each fit four bytes
pub record FitsFourBytes (b : Batch) : Type 0 where
  pub few : length b.records < 2 ^ 32
  pub short : length (body (Records b)) < 2 ^ 32

-- a resume batch in the format: it ends at a step, and its numbers fit
pub record IsResume (from to kept : ℕ) : Type 0 where
  pub first : from < 2 ^ 64
  pub last : to ≤ 2 ^ 59
  pub past : kept < 2 ^ 64

-- a batch in the format of this number, whatever its steps and its stamps say: only in format 1 there are old records
abbrev pub IsLogBatch : ℕ → LogBatch → Type 0
IsLogBatch version (Records b) = IsRecordBatch b
IsLogBatch version (OldRecords b) = (version ≡ 1) × IsOldBatch b
IsLogBatch version (Resume from to kept) = IsResume from to kept

-- records in order: stamps rise strictly, each over `from` and at most `to`
pub record AreInOrder (from to : ℕ) (records : List Record) : Type 0 where
  pub rising : IsStrictlyIncreasing (map (λ r. r.stamp) records)
  pub within : All (λ r. (from < r.stamp) × (r.stamp ≤ to)) records

-- a batch that rises: `from` is at most `to`, its stamps rise between them, no more than `to` is kept
abbrev pub Rises : LogBatch → Type 0
Rises (Records b) = (b.from ≤ b.to) × AreInOrder b.from b.to b.records
Rises (OldRecords b) = (b.from ≤ b.to) × AreInOrder b.from b.to b.records
Rises (Resume from to kept) = (from ≤ to) × (kept ≤ to)

-- over which step a batch goes
abbrev pub from_of : LogBatch → ℕ
from_of (Records b) = b.from
from_of (OldRecords b) = b.from
from_of (Resume from to kept) = from

-- and up to which
abbrev pub to_of : LogBatch → ℕ
to_of (Records b) = b.to
to_of (OldRecords b) = b.to
to_of (Resume from to kept) = to

-- batches that rise, and join: the first begins at this step, each later one where the last one ends
abbrev pub Join : ℕ → List LogBatch → Type 0
Join mark [] = Unit {0}
Join mark (b ∷ bs) = (from_of b ≡ mark) × Rises b × Join (to_of b) bs

-- where batches end, whether they join or not: where the last one does
abbrev pub end_of : ℕ → List LogBatch → ℕ
end_of mark [] = mark
end_of mark (b ∷ bs) = end_of (to_of b) bs

-- The number of its format, whose log it is, of how many, its generation, the step after which it begins, and its
-- batches. A log of format 1 or 2 has generation 0 and start 0.
pub record Contents : Type 0 where
  pub version : ℕ
  pub worker : ℕ
  pub logs : ℕ
  pub generation : ℕ
  pub start : ℕ
  pub batches : List LogBatch

-- a format, a generation and a start that go together: none of the latter in formats 1 and 2, both in format 3
abbrev pub AreNumbers : ℕ → ℕ → ℕ → Type 0
AreNumbers version zero start = IsVersion version × (start ≡ 0)
AreNumbers version (suc before) start = (version ≡ 3) × (suc before ≤ 2 ^ 59) × (start ≤ 2 ^ 59)

-- one of 1 to 64 logs, whose batches are in the format
pub record IsContents (c : Contents) : Type 0 where
  pub numbers : AreNumbers c.version c.generation c.start
  pub worker : c.worker < c.logs
  pub logs : c.logs ≤ 64
  pub batches : AllByRecursion (IsLogBatch c.version) c.batches

-- a log whose batches rise, and join from its start on
abbrev pub JoinsAndRises : Contents → Type 0
JoinsAndRises c = Join c.start c.batches

-- its mark: the step at which its last batch ends, or its start
abbrev pub mark_of : Contents → ℕ
mark_of c = end_of c.start c.batches

-- a log up to its end gate
abbrev pub log_bytes : Contents → Bytes
log_bytes c = beginning c.version c.worker c.logs c.generation c.start ++ flat_map batch_bytes c.batches

-- a log without batches, in format 2
abbrev pub no_batches : ℕ → ℕ → Contents
no_batches worker logs = record { version = 2; worker = worker; logs = logs; generation = 0; start = 0; batches = [] }

-- with one batch more
abbrev pub with_batch : LogBatch → Contents → Contents
with_batch b c = record { version = c.version; worker = c.worker; logs = c.logs; generation = c.generation; start = c.start; batches = c.batches ++ b ∷ [] }

-- what was read of a log
abbrev pub contents_of : Front → Contents
contents_of front = record { version = front.version; worker = front.worker; logs = front.logs; generation = front.generation; start = front.start; batches = front.batches.items }
