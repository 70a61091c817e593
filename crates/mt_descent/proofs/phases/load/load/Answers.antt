-- What a load keeps: one lemma over what it took.
use Rattle.std.proofs.lemmas.Result.{IfOk-weaker}
use Rattle.mt_descent.proofs.Looks.{kept_loads}
use Rattle.mt_descent.proofs.phases.load.load.Goals as goal

pub returns-clause-kept : goal.returns-clause-kept
returns-clause-kept c past loading = IfOk-weaker c.taken_at.result _ _
    (λ taken l. kept_loads c.args.arena.now c.args.key.now c.args.walk.now c.taken_at.new.walk past _ loading l) c.taken_at.ensures.is
