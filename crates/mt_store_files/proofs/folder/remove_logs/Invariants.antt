use Rattle.std.specs.List.{flat_map}
use Rattle.mt_store_files.specs.{Calls.{Adds, removals}, FoundLogs.files_up_to}
use Rattle.mt_store_files.proofs.folder.remove_logs.Given as goal

-- the files of each worker so far are removed
abbrev pub invariant-loop-worker : goal.invariant-loop-worker
invariant-loop-worker g l = Adds (g.S.FolderSystem.calls l.fn.system) (g.S.FolderSystem.calls l.system) (flat_map removals (files_up_to l.worker))
