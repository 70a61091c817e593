use Rattle.mt_store_files.proofs.CallLemmas.{looks_more}
use Rattle.mt_store_files.proofs.folder.StoreFolder.find_logs.Goals as goal

pub loop-worker-preserved : goal.loop-worker-preserved
loop-worker-preserved g c = (
  looks_more (g.S.FolderSystem.calls c.args.self.now.system) (g.S.FolderSystem.calls c.loop-worker.self.system) (g.S.FolderSystem.calls c.has_log.new.system)
      c.loop-worker.invariant.0 c.in_ok-has_log.ensures.looks,
  c.loop-worker.invariant.1,
)
