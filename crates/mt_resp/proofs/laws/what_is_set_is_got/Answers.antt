use Rattle.mt_resp.proofs.LongStrings.{set_is_got}
use Rattle.mt_resp.proofs.laws.what_is_set_is_got.Goals as goal

pub returns : goal.returns
returns c = set_is_got
