use Rattle.mt_store_files.proofs.FoundLemmas.{log_found}
use Rattle.mt_store_files.proofs.folder.open_log.Goals as goal

pub returns-clause-found : goal.returns-clause-found
returns-clause-found g c =
    log_found g.S.File.Disk.is_honest g.S.File.Disk.state c.args.worker c.in_ok-plain.plain c.in_ok-even.even c.in_ok-odd.odd c.closed.result
    (g.S.FolderSystem.calls c.args.system.now) (g.S.FolderSystem.calls c.open_or_make.new.system) (g.S.FolderSystem.calls c.open_numbered.new.system) (g.S.FolderSystem.calls c.open_numbered-2.new.system)
    c.args.made.now.items c.open_or_make.new.made.items c.open_numbered.new.made.items c.open_numbered-2.new.made.items
    c.in_ok-plain.ensures.found c.in_ok-even.ensures.found c.in_ok-odd.ensures.found c.closed.ensures
