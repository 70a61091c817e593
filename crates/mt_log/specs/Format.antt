-- Formats 1 to 3 of a log: how a beginning, a record and a batch are spelled. All numbers have their highest byte first.
use Rattle.std.specs.{Prelude.{ℕ, zero, suc, [], ◌∷◌, ◌++◌, length, ◌≤◌}, Int.{to_be_bytes, w32, w64}, List.flat_map}
use Rattle.mt_rows.specs.{Rows.Bytes, declared.record.Record.Record, declared.record.Batch.Batch, declared.record.Write.TheVariants.{Changed, Removed, Whole}}
use Rattle.mt_rows.specs.declared.record.Write.{Write}
use Rattle.mt_fields.specs.Fields.{string}
use Rattle.mt_row_fields.specs.Format.{row_bytes, change_bytes}
use Rattle.mt_log_generations.specs.Headers.{header_with, header_bytes}
use Rattle.mt_log.specs.{declared.batch.LogBatch.LogBatch, declared.batch.LogBatch.TheVariants.{Records, Resume, OldRecords}}

-- the number of a format without generations
abbrev pub IsVersion : ℕ → Type 0
IsVersion version = (1 ≤ version) × (version ≤ 2)

-- MTLOG, the format's number, the worker, the number of logs
abbrev pub header : ℕ → ℕ → ℕ → Bytes
header version worker logs = 77 ∷ 84 ∷ 76 ∷ 79 ∷ 71 ∷ version ∷ worker ∷ logs ∷ []

-- What stands before the first batch gate. A log of no generation has a header of format 1 or 2. That of a generation
-- has the open outer gate, and then a header of format 3, which names the generation and the start.
abbrev pub beginning : ℕ → ℕ → ℕ → ℕ → ℕ → Bytes
beginning version worker logs zero start = header version worker logs
beginning version worker logs (suc before) start = 1 ∷ header_bytes (header_with worker logs (suc before) start)

-- what became of a key: 00 if it was removed, 01 and its row, or 02 and the columns that were changed
abbrev pub write_bytes : Write → Bytes
write_bytes Removed = 0 ∷ []
write_bytes (Whole row) = 1 ∷ row_bytes row
write_bytes (Changed change) = 2 ∷ change_bytes change

-- a record: its stamp, its tenant, its key, and what became of that
abbrev pub record_bytes : Record → Bytes
record_bytes r = to_be_bytes w64 r.stamp ++ (to_be_bytes w32 r.tenant ++ (string r.key ++ write_bytes r.write))

-- over which step and up to which a batch of records goes, and its records
abbrev pub batch_fields : Batch → Bytes
batch_fields b = to_be_bytes w64 b.from ++ (to_be_bytes w64 b.to ++ (to_be_bytes w32 (length b.records) ++ flat_map record_bytes b.records))

-- the body of a batch: its kind, and its records or what was kept
abbrev pub body : LogBatch → Bytes
body (Records b) = 2 ∷ batch_fields b
body (OldRecords b) = 0 ∷ batch_fields b
body (Resume from to kept) = 1 ∷ (to_be_bytes w64 from ++ (to_be_bytes w64 to ++ to_be_bytes w64 kept))

-- a body behind its length in four bytes
abbrev pub told_body : Bytes → Bytes
told_body bytes = to_be_bytes w32 (length bytes) ++ bytes

-- an open batch: the gate 01, and the body behind its length
abbrev pub open_batch : Bytes → Bytes
open_batch bytes = 1 ∷ told_body bytes

-- a batch that counts
abbrev pub batch_bytes : LogBatch → Bytes
batch_bytes b = open_batch (body b)
