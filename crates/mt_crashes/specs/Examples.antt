-- Two logs of a store that was recovered once: what a recovery of them answers, as an example.
use Rattle.std.specs.Prelude.{ℕ, List, [], ◌∷◌}
use Rattle.mt_rows.specs.{declared.record.Record.Record, declared.record.Batch.Batch, declared.record.Write.TheVariants.Whole}
use Rattle.mt_log.specs.{declared.batch.LogBatch.TheVariants.{Records, Resume}, Contents.Contents}

-- a change with a number, of a key and with a row of its own
abbrev pub change : ℕ → Record
change n = record { stamp = n; tenant = 0; key = n ∷ []; write = Whole ((n ∷ []) ∷ []) }

-- a batch with one such change, the last of its numbers
abbrev pub batch : ℕ → ℕ → Batch
batch from n = record { from = from; to = n; records = change n ∷ [] }

-- The second log ended at 1 when the store was recovered, and the first at 2. The store went on from 2, and placed a change of each log's worker.
abbrev pub fronts_of_two : List Contents
fronts_of_two =
    record { version = 2; worker = 0; logs = 2; generation = 0; start = 0; batches = Records (batch 0 2) ∷ Resume 2 2 1 ∷ Records (batch 2 4) ∷ [] }
    ∷ record { version = 2; worker = 1; logs = 2; generation = 0; start = 0; batches = Records (batch 0 1) ∷ Resume 1 2 1 ∷ Records (batch 2 3) ∷ [] } ∷ []
