use Rattle.mt_store_files.specs.{FoundLogs.files_up_to, Checks.AreChecked}
use Rattle.mt_store_files.proofs.digests.check_logs.Given as goal

-- the files of each worker so far agree
abbrev pub invariant-loop-worker : goal.invariant-loop-worker
invariant-loop-worker g l = AreChecked g.S.File.Disk.is_honest g.S.File.Disk.state (files_up_to l.worker) (g.S.FolderSystem.calls l.fn.system) (g.S.FolderSystem.calls l.system)
