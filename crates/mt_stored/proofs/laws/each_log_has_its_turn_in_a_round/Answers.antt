use Rattle.mt_stored.proofs.Rounds.{comes_to_each}
use Rattle.mt_stored.proofs.laws.each_log_has_its_turn_in_a_round.Goals as goal

pub returns : goal.returns
returns c = λ count next log less. comes_to_each count next log less
