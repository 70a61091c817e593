-- That a step leaves the other tenants' maps, for `State::step`.
use Rattle.std.proofs.Common.{subst}
use Rattle.mt_state.specs.{Views.{StateView, shown}, Promises.Tells}
use Rattle.mt_core.proofs.Bystanders.{others_stay}
use Rattle.mt_core.proofs.state.State.step.Goals as goal

pub returns-clause-tenants : goal.returns-clause-tenants
returns-clause-tenants c =
    others_stay c.args.self.now (shown c.step.new.self) c.args.ticket.now.id c.step.result (subst (λ (v : StateView). Tells v (shown c.step.new.self) c.args.ticket.now.id c.step.result) c.self.view_is c.step.ensures.tells)
