use Rattle.std.proofs.Common.{◌≡◌, vec_len}
use Rattle.mt_store_files.specs.{Calls.Makes, FoundLogs.files_up_to}
use Rattle.mt_store_files.proofs.folder.create_each.Given as goal

-- the files of each worker so far
abbrev pub invariant-loop-worker : goal.invariant-loop-worker
invariant-loop-worker g l = (vec_len l.files ≡ l.worker) × Makes (files_up_to l.worker) (g.S.FolderSystem.calls l.fn.system) (g.S.FolderSystem.calls l.system)
