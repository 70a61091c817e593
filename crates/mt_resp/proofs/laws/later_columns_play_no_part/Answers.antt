use Rattle.mt_resp.proofs.LongStrings.{later_columns_play_no_part}
use Rattle.mt_resp.proofs.laws.later_columns_play_no_part.Goals as goal

pub returns : goal.returns
returns c = later_columns_play_no_part
