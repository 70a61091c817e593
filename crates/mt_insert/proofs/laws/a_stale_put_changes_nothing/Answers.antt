-- That a put which asks for another stamp changes nothing, for the law of it.
use Rattle.mt_insert.proofs.Commands.{stale}
use Rattle.mt_insert.proofs.laws.a_stale_put_changes_nothing.Goals as goal

pub returns : goal.returns
returns c = λ quota step contents task stamp put is other. stale quota step contents task put stamp is other
