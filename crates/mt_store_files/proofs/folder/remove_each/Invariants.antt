use Rattle.std.proofs.Common.{map, take}
use Rattle.mt_store_files.specs.Calls.{removal, Tries}
use Rattle.mt_store_files.proofs.folder.remove_each.Given as goal

-- the files so far are removed
abbrev pub invariant-loop-file : goal.invariant-loop-file
invariant-loop-file g l = Tries (map removal (take l.file-index l.files)) (g.S.FolderSystem.calls l.fn.system) (g.S.FolderSystem.calls l.system)
