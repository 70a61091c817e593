-- There is one last generation, and one chain of each worker from it on.
use Rattle.mt_generations.proofs.{Deciding.have_all, Choices.{one_choice, none_begins, begins_none, older_unread}}
use Rattle.mt_generations.proofs.laws.there_is_one_choice_at_most.Goals as goal

pub returns-clause-one : goal.returns-clause-one
returns-clause-one c g h files slots chains others a b = one_choice files slots g h chains others a b

pub returns-clause-no_generation : goal.returns-clause-no_generation
returns-clause-no_generation c files slots none g chains chosen = none g (have_all g files chains chosen.0)

pub returns-clause-none : goal.returns-clause-none
returns-clause-none c g files slots last lacks before = none_begins files slots g last lacks before

pub returns-clause-only_then : goal.returns-clause-only_then
returns-clause-only_then c g files slots last none = begins_none files slots g last none

pub returns-clause-older_unread : goal.returns-clause-older_unread
returns-clause-older_unread c = older_unread
