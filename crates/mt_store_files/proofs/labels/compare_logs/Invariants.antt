use Rattle.mt_store_files.specs.{FoundLogs.files_up_to, Strange.HaveExpected}
use Rattle.mt_store_files.proofs.labels.compare_logs.Given as goal

-- the files of each worker so far have the logs that are expected there
abbrev pub invariant-loop-worker : goal.invariant-loop-worker
invariant-loop-worker g l = HaveExpected g.S.File.Disk.is_honest g.S.File.Disk.state l.fn.logs (files_up_to l.worker) (g.S.FolderSystem.calls l.fn.system) (g.S.FolderSystem.calls l.system)
