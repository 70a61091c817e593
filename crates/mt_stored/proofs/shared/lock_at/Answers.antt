-- A log that is refused is another worker's.
use Rattle.std.proofs.Common.{refl, ◌∙◌}
use Rattle.mt_stored.proofs.shared.lock_at.Goals as goal

pub returns-clause-err : goal.returns-clause-err
returns-clause-err g c = (refl, c.deref.result.now, λ is. c.if-worker-log.false (c.worker.ensures ∙ is))
