-- The next log was found, and is the last one, or none was.
use Rattle.mt_store_logs.proofs.NextLogs.{finds}
use Rattle.mt_store_logs.proofs.next_log.find_next.Goals as goal

pub returns-in-Ok-clause-ok : goal.returns-in-Ok-clause-ok
returns-in-Ok-clause-ok g c =
    finds g.D.Disk.is_honest g.D.Disk.state g.D.Disk.failures c.args.log.now c.take_files-files.new.log c.put_files.new.log c.take_files-files.result c.open_next.new.files
    c.generation-generation.result c.last_with.result c.in-Ok.found c.generation-generation.ensures c.take_files-files.ensures.files c.take_files-files.ensures.log
    c.open_next.ensures.rest c.in-Ok.ensures.ok c.last_with.ensures c.put_files.ensures
