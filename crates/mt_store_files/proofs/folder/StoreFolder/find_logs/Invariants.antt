use Rattle.std.proofs.Common.{◌≡◌}
use Rattle.mt_store_files.specs.Calls.{Looks}
use Rattle.mt_store_files.proofs.folder.StoreFolder.find_logs.Given as goal

-- each worker so far was only looked at
abbrev pub invariant-loop-worker : goal.invariant-loop-worker
invariant-loop-worker g l = Looks (g.S.FolderSystem.calls l.fn.self.system) (g.S.FolderSystem.calls l.self.system) × (l.self.made ≡ l.fn.self.made)
