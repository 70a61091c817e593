-- What the contents have at the key of a put that splits its border node, for the law of it.
use Rattle.mt_held.proofs.Places.{none_here}
use Rattle.mt_insert.proofs.SplitKeys.{none_in_halves}
use Rattle.mt_insert.proofs.laws.no_row_before_a_split.Goals as goal

pub returns-clause-at_start : goal.returns-clause-at_start
returns-clause-at_start c = λ v op task prepared w arena kept. none_here v op task.key w arena kept.holds kept.missing

pub returns-clause-at_move : goal.returns-clause-at_move
returns-clause-at_move c = λ v op task prepared w s arena kept. none_in_halves v op task prepared w s arena kept
