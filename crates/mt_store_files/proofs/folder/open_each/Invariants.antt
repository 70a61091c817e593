use Rattle.std.proofs.Common.{◌≡◌, vec_len}
use Rattle.mt_store_files.specs.FoundLogs.{AreFound}
use Rattle.mt_store_files.proofs.folder.open_each.Given as goal

-- the files of each worker so far
abbrev pub invariant-loop-worker : goal.invariant-loop-worker
invariant-loop-worker g l =
    (vec_len l.files ≡ l.worker)
    × AreFound g.S.File.Disk.is_honest g.S.File.Disk.state l.worker l.files.items (g.S.FolderSystem.calls l.fn.system) (g.S.FolderSystem.calls l.system) l.fn.made.items l.made.items
