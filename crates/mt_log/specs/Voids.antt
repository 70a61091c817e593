-- Which numbers the resume batches of a log make void, and which records its batches have.
use Rattle.std.specs.{Prelude.{ℕ, Bool, not, ◌&&◌, nat_lt, List, [], Option, Some, None}, List.list_any}
use Rattle.mt_rows.specs.declared.record.Record.{Record}
use Rattle.mt_log.specs.{declared.batch.LogBatch.LogBatch, declared.batch.LogBatch.TheVariants.{Records, Resume, OldRecords}}

-- the numbers over one and up to another
abbrev pub Numbers : Type 0
Numbers = ℕ × ℕ

-- the numbers that a batch makes void: those over what a recovery kept, up to the number from which the store then went on
abbrev pub voids_in : LogBatch → Option Numbers
voids_in (Records b) = None
voids_in (OldRecords b) = None
voids_in (Resume from to kept) = Some (kept, to)

-- whether a number is void
abbrev pub is_void : List Numbers → ℕ → Bool
is_void voids n = list_any (λ v. nat_lt v.0 n && not (nat_lt v.1 n)) voids

-- the records of a batch
abbrev pub records_in : LogBatch → List Record
records_in (Records b) = b.records
records_in (OldRecords b) = b.records
records_in (Resume from to kept) = []
