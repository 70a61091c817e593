use Rattle.std.proofs.Common.{◌++◌}
use Rattle.mt_rows.specs.Stamps.{columns_in}
use Rattle.mt_resp.specs.Strings.{value_of}
use Rattle.mt_resp.proofs.SignedNumbers.{put_is_got}
use Rattle.mt_resp.proofs.laws.what_is_appended_is_got.Goals as goal

pub returns : goal.returns
returns c = λ word found change told. put_is_got (value_of (columns_in found) ++ word) (columns_in found) change told
