use Rattle.mt_alone.proofs.Texts.{one_text}
use Rattle.mt_alone.proofs.laws.one_text.Goals as goal

pub returns : goal.returns
returns c = one_text
