-- Each by its lemma.
use Rattle.mt_chain_files.proofs.TurnLaws.{first_turn, next_turn}
use Rattle.mt_chain_files.proofs.laws.one_turn_follows_another.Goals as goal

pub returns-clause-first : goal.returns-clause-first
returns-clause-first c = first_turn

pub returns-clause-next : goal.returns-clause-next
returns-clause-next c g now next files = next_turn files g now next
