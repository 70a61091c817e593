use Rattle.mt_store_files.proofs.CallLemmas.{on_ok, looks_more}
use Rattle.mt_store_files.proofs.folder.has_numbered.Goals as goal

pub returns-clause-looks : goal.returns-clause-looks
returns-clause-looks g c =
    on_ok c.is_log-2.result (looks_more (g.S.FolderSystem.calls c.args.system.now) (g.S.FolderSystem.calls c.is_log.new.system) (g.S.FolderSystem.calls c.is_log-2.new.system) c.in_ok-is_log.ensures.looks) c.is_log-2.ensures.looks
