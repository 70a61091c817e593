use Rattle.mt_resp.proofs.Commands.{spelling_is_read}
use Rattle.mt_resp.proofs.laws.a_spelling_is_read.Goals as goal

pub returns : goal.returns
returns c = spelling_is_read
