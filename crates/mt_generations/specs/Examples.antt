-- One worker, whose log has one put. The log of the next generation was begun after it, and a checkpoint was written.
use Rattle.std.specs.Prelude.{ℕ, zero, suc, List, [], ◌∷◌, Option, Some, None}
use Rattle.mt_rows.specs.{Tenants.{Contents as Pairs}, declared.record.Record.Record, declared.record.Write.TheVariants.Whole}
use Rattle.mt_log.specs.{declared.batch.LogBatch.LogBatch, declared.batch.LogBatch.TheVariants.Records, Contents.{no_batches}}
use Rattle.mt_crashes.specs.Bases.{Slots}
use Rattle.mt_generations.specs.{Chains.Chain, Standings.Standing}

-- the put, the fifth step of the store
abbrev pub put : Record
put = record { stamp = 5; tenant = 7; key = 107 ∷ []; write = Whole ((118 ∷ []) ∷ []) }

-- its batch, and one of no records
abbrev pub put_batch : LogBatch
put_batch = Records (record { from = 0; to = 6; records = put ∷ [] })

abbrev pub idle_batch : LogBatch
idle_batch = Records (record { from = 6; to = 9; records = [] })

-- the worker's only log, from a start on, with these batches
abbrev pub chain_with : ℕ → List LogBatch → Chain
chain_with start batches = record (no_batches 0 1) { start = start; batches = batches }

-- its logs of generation 0 and 1, and of no other
abbrev pub two_logs : Option Chain → Chain → Standing
two_logs first next zero = first
two_logs first next (suc zero) = Some next
two_logs first next (suc (suc g)) = None

-- the checkpoint, in the first slot
abbrev pub one_checkpoint : Pairs → Slots
one_checkpoint pairs = Some (record { from = 6; to = 9; pairs = pairs }) ∷ None ∷ []
