-- One worker more has its chain.
use Rattle.mt_chains.proofs.JoinLaws.{one_more}
use Rattle.mt_chains.proofs.joining.chains_from.Goals as goal

pub loop-worker-preserved : goal.loop-worker-preserved
loop-worker-preserved c =
    one_more c.args.generation c.loop-worker.yielded c.in-Some.worker c.loop-worker.chains.items c.add_chain.new.chains.items c.loop-worker.invariant c.in_ok-add_chain.ensures
