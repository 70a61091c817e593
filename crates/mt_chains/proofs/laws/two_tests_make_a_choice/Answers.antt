-- A generation has one list of chains.
use Rattle.std.proofs.Common.{inl}
use Rattle.mt_generations.proofs.Deciding.{same_from}
use Rattle.mt_chains.proofs.ChoiceLaws.{before_chosen, neither_chosen, first_not_chosen}
use Rattle.mt_chains.proofs.laws.two_tests_make_a_choice.Goals as goal

pub returns-clause-last : goal.returns-clause-last
returns-clause-last c g files slots chains last are has = (are, has, inl last)

pub returns-clause-before : goal.returns-clause-before
returns-clause-before c = before_chosen

pub returns-clause-neither : goal.returns-clause-neither
returns-clause-neither c = neither_chosen

pub returns-clause-none_before : goal.returns-clause-none_before
returns-clause-none_before c = first_not_chosen

pub returns-clause-one_list : goal.returns-clause-one_list
returns-clause-one_list c = same_from
