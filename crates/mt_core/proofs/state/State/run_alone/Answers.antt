-- How a run ends that is alone, for `State::run_alone`.
use Rattle.std.proofs.Common.{subst}
use Rattle.mt_operation.specs.Operations.{OperationView}
use Rattle.mt_state.specs.Views.{StateView, shown}
use Rattle.mt_core.specs.Alone.{IsAlone, EndsAlone, IsUndisturbed, EndsSoon}
use Rattle.mt_core.proofs.state.State.run_alone.Goals as goal

pub returns-clause-alone : goal.returns-clause-alone
returns-clause-alone c =
    subst (λ (v : StateView). (op : OperationView) → IsAlone v c.args.ticket.now.id op → EndsAlone v (shown c.run_alone.new.self) c.args.ticket.now.id op c.run_alone.result) c.self.view_is c.run_alone.ensures.alone

pub returns-clause-ends : goal.returns-clause-ends
returns-clause-ends c =
    subst (λ (v : StateView). (op : OperationView) → IsUndisturbed v c.args.ticket.now.id op → EndsSoon v (shown c.run_alone.new.self) c.args.ticket.now.id op c.run_alone.result) c.self.view_is c.run_alone.ensures.ends
