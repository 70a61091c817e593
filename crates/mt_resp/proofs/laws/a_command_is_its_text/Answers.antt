use Rattle.mt_resp.proofs.Commands.{command_exact}
use Rattle.mt_resp.proofs.laws.a_command_is_its_text.Goals as goal

pub returns : goal.returns
returns c = command_exact
