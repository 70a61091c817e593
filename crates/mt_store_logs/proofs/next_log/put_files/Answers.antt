-- It is the same worker's.
use Rattle.std.proofs.Common.{◌∙◌}
use Rattle.mt_store_logs.proofs.NextLogs.{turned}
use Rattle.mt_store_logs.proofs.next_log.put_files.Goals as goal

pub returns : goal.returns
returns g c =
    turned c.args.log.now c.new.result c.args.generation c.args.files
    (c.new.ensures.worker ∙ c.worker.ensures) (c.new.ensures.logs ∙ c.logs.ensures) c.new.ensures.generation c.new.ensures.files
