use Rattle.mt_resp.proofs.Commands.{refused_begins_none}
use Rattle.mt_resp.proofs.laws.what_is_refused_begins_no_command.Goals as goal

pub returns : goal.returns
returns c = refused_begins_none
