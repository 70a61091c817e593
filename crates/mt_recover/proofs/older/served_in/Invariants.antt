-- The number so far, and that of the batches that are left, are that of all.
use Rattle.std.proofs.Common.{◌≡◌, ◌≤◌, max, drop}
use Rattle.mt_recover.specs.Older.{served_in}
use Rattle.mt_recover.proofs.older.served_in.Given as goal

abbrev pub invariant-loop-batch : goal.invariant-loop-batch
invariant-loop-batch l = (l.served ≤ l.resumed) × (max l.served (served_in l.resumed (drop l.batch-index l.front.batches.items)) ≡ served_in 0 l.front.batches.items)
