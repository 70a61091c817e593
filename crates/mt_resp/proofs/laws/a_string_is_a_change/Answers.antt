use Rattle.mt_resp.proofs.LongStrings.{string_is_change}
use Rattle.mt_resp.proofs.laws.a_string_is_a_change.Goals as goal

pub returns : goal.returns
returns c = string_is_change
