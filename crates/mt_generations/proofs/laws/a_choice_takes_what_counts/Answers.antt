-- The checkpoint ended after the log's end, and then by it.
use Rattle.mt_generations.proofs.Example.{chosen_older, recovered_older, chosen_newer, recovered_newer}
use Rattle.mt_generations.proofs.laws.a_choice_takes_what_counts.Goals as goal

pub returns-clause-both : goal.returns-clause-both
returns-clause-both c walked = (chosen_older walked, recovered_older walked)

pub returns-clause-alone : goal.returns-clause-alone
returns-clause-alone c walked older = (chosen_newer walked older, recovered_newer walked)
