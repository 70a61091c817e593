-- It is the same worker's.
use Rattle.std.proofs.Common.{◌∙◌}
use Rattle.mt_store_logs.specs.Places.{no_files}
use Rattle.mt_store_logs.proofs.NextLogs.{turned}
use Rattle.mt_store_logs.proofs.next_log.take_files.Goals as goal

pub returns-clause-log : goal.returns-clause-log
returns-clause-log g c =
    c.replace.ensures.after
    ∙ turned c.args.log.now c.new-away.result 0 no_files
    (c.new-away.ensures.worker ∙ c.worker.ensures) (c.new-away.ensures.logs ∙ c.logs.ensures) c.new-away.ensures.generation (c.new-away.ensures.files ∙ c.no_files.ensures)
