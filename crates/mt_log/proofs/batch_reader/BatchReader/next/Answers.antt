-- What a step finds at its gate is the first batch that is ahead, or none is.
use Rattle.mt_log.proofs.RereadLaws.{given_first}
use Rattle.mt_log.proofs.batch_reader.BatchReader.next.Goals as goal

pub returns-clause-first : goal.returns-clause-first
returns-clause-first g c =
    given_first c.args.self.now c.step.new.self g.D.Disk.is_honest g.D.Disk.state c.args.log.now.disk c.step.result c.step.ensures.version c.step.ensures.len c.step.ensures.given c.step.ensures.told
