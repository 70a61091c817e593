use Rattle.mt_store_files.specs.declared.names.StoreFile.TheVariants.{Log}
use Rattle.mt_store_files.proofs.CallLemmas.{tried_next}
use Rattle.mt_store_files.proofs.folder.remove_each.Goals as goal

pub loop-file-preserved : goal.loop-file-preserved
loop-file-preserved g c =
    tried_next c.remove.result (g.S.FolderSystem.calls c.args.system.now) (g.S.FolderSystem.calls c.loop-file.system) (g.S.FolderSystem.calls c.remove.new.self)
    c.args.files.now c.loop-file.file-index (Log 0) c.loop-file-test.true c.loop-file.invariant c.remove.ensures.calls
