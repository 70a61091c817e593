use Rattle.mt_resp.proofs.Numbers.{number_read, number_spelled}
use Rattle.mt_resp.proofs.laws.a_number_has_one_spelling.Goals as goal

pub returns-clause-read : goal.returns-clause-read
returns-clause-read c = number_read

pub returns-clause-spelled : goal.returns-clause-spelled
returns-clause-spelled c = number_spelled
