-- That a step that is no look is to be made as it was found.
use Rattle.std.proofs.Common.{sym, subst}
use Rattle.mt_state.specs.Views.{Core}
use Rattle.mt_operation.specs.Phases.{IsNoLook}
use Rattle.mt_core.specs.{Nexts.IsNext, Points.StepsOn}
use Rattle.mt_core.proofs.inner.Inner.step.Goals as goal

pub write-requires-clause-others : goal.write-requires-clause-others
write-requires-clause-others c = subst (λ (v : Core). IsNext v c.args.id IsNoLook) (sym c.in-None.ensures.unchanged) c.in-None.ensures.others

pub returns-in-None : goal.returns-in-None
returns-in-None c = subst (λ (v : Core). StepsOn v c.write.new.self c.args.id c.write.result) c.in-None.ensures.unchanged c.write.ensures
