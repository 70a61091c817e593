use Rattle.std.proofs.Common.{◌≡◌, ◌≤◌}
use Rattle.mt_store_files.proofs.folder.StoreFolder.count_logs.Given as goal

-- one log at most for each worker so far
abbrev pub invariant-loop-worker : goal.invariant-loop-worker
invariant-loop-worker g l = (l.logs ≤ l.worker) × (l.self.made ≡ l.fn.self.made)
