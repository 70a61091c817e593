use Rattle.mt_state.proofs.RowStamps.{row_stamp}
use Rattle.mt_state.proofs.laws.a_row_has_its_steps_stamp.Goals as goal

pub returns : goal.returns
returns c = λ core q row stamps some. row_stamp core stamps q row some
