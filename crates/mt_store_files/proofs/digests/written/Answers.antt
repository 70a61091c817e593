use Rattle.std.proofs.Common.{IsTrue, subst}
use Rattle.mt_store_files.proofs.digests.written.Goals as goal

pub returns-in-Ok-clause-written : goal.returns-in-Ok-clause-written
returns-in-Ok-clause-written g c = record {
  written = λ honest. c.in-Ok.ensures.written (subst IsTrue c.write_digest.ensures.honest honest);
  leaves = λ honest. c.write_digest.ensures.leaves (subst IsTrue c.write_digest.ensures.honest honest);
}
