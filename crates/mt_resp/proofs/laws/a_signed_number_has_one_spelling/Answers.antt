use Rattle.mt_resp.proofs.SignedNumbers.{signed_read, signed_spelled}
use Rattle.mt_resp.proofs.laws.a_signed_number_has_one_spelling.Goals as goal

pub returns-clause-read : goal.returns-clause-read
returns-clause-read c = signed_read

pub returns-clause-spelled : goal.returns-clause-spelled
returns-clause-spelled c = signed_spelled
