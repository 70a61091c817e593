use Rattle.mt_alone.proofs.NumberedTexts.{some_numbers, one_by_numbers}
use Rattle.mt_alone.proofs.laws.one_text_by_numbers.Goals as goal

pub returns : goal.returns
returns c = record { numbers = some_numbers; one = one_by_numbers }
