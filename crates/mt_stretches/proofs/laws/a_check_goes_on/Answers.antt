use Rattle.mt_stretches.proofs.Checking.{checked_on, checked_off, checked_short, dropped}
use Rattle.mt_stretches.proofs.laws.a_check_goes_on.Goals as goal

pub returns-clause-goes : goal.returns-clause-goes
returns-clause-goes c = λ past first from after n prefix count columns w x s is h g check same stored hops.
    checked_on past first from after n prefix count columns w x s is h check g same stored hops

pub returns-clause-ends : goal.returns-clause-ends
returns-clause-ends c = λ past first from after n prefix count columns w x s is h g check same is_done.
    checked_off past first from after n prefix count columns w x s is h check g same is_done

pub returns-clause-short : goal.returns-clause-short
returns-clause-short c = λ past first from after n prefix count columns w x s is h g check same.
    checked_short past first from after n prefix count columns w x s is h check g same

pub returns-clause-drops : goal.returns-clause-drops
returns-clause-drops c = λ past first from after n prefix count columns w x s is h check differs.
    dropped past first from after n prefix count columns w x s is h check differs
