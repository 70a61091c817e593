-- For what a begin is refused, for `State::begin`.
use Rattle.mt_core.proofs.Refusing.{refused_by}
use Rattle.mt_core.proofs.state.State.begin.Goals as goal

pub returns-clause-refused : goal.returns-clause-refused
returns-clause-refused c =
    refused_by c.args.self.now c.args.tenant c.args.command c.prepare.result c.admit-3.result c.prepare.ensures.tenant c.prepare.ensures.refused c.admit-3.ensures.refused
