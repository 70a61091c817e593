use Rattle.mt_resp.proofs.Commands.{read_is_spelled}
use Rattle.mt_resp.proofs.laws.what_is_read_is_spelled.Goals as goal

pub returns : goal.returns
returns c = read_is_spelled
