-- Logs that are read twice: a second reading gives what the first one did but for the records, and its stamps rise too.
use Rattle.std.specs.{Prelude.{◌≡◌, ℕ, ◌==◌, Bool, true, false, ◌&&◌, not, is_some, List, [], map, Option, Some, None, slice_get}, Prelude.set}
use Rattle.mt_rows.specs.declared.record.Batch.{Batch}
use Rattle.mt_log.specs.{declared.batch.LogBatch.LogBatch, declared.batch.LogBatch.TheVariants.{Records, OldRecords, Resume}, Contents.{Contents}, Falls.fall_in}
use Rattle.mt_recover.specs.Falls.{first_fall}

-- a batch without its records: its kind and its numbers
abbrev pub outline : LogBatch → LogBatch
outline (Records b) = Records (record { from = b.from; to = b.to; records = [] })
outline (OldRecords b) = OldRecords (record { from = b.from; to = b.to; records = [] })
outline (Resume from to kept) = Resume from to kept

-- a log without its records
abbrev pub outline_of : Contents → Contents
outline_of c = record c { batches = map outline c.batches }

-- logs that were read again: but for their records they are what they were, and nothing falls in any of them
pub record AreAgain (first second : List Contents) : Type 0 where
  pub same : map outline_of second ≡ map outline_of first
  pub rise : first_fall second ≡ None

-- whether a batch of records has the numbers that it had, and its stamps rise
abbrev pub rises_again : Batch → Batch → Bool
rises_again first again = (first.from == again.from) && (first.to == again.to) && not (is_some (fall_in again.from again.to (map (λ r. r.stamp) again.records)))

-- whether a batch is what it was but for its records, and its stamps rise
abbrev pub is_again : LogBatch → LogBatch → Bool
is_again (Records first) (Records again) = rises_again first again
is_again (OldRecords first) (OldRecords again) = rises_again first again
is_again (Resume from to kept) (Resume from_again to_again kept_again) = (from == from_again) && (to == to_again) && (kept == kept_again)
is_again first again = false

-- a batch agrees with that at a place of a log
abbrev pub Agrees : LogBatch → List LogBatch → ℕ → Type 0
Agrees again batches place = (first : LogBatch) × (slice_get batches place ≡ Some first) × (is_again first again ≡ true)

-- a log with a batch in the place of another one
abbrev pub with_batch_at : Contents → ℕ → LogBatch → Contents
with_batch_at c place b = record c { batches = set c.batches place b }
