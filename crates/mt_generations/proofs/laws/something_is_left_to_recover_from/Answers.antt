-- A settled base may be used over the chains from the generation that stands whole.
use Rattle.mt_crashes.specs.Stores.{new_store}
use Rattle.mt_crashes.proofs.{NewStore.new_is, Kept.leads}
use Rattle.mt_generations.proofs.{Left.is_chosen, Ends.chosen_ends}
use Rattle.mt_generations.proofs.laws.something_is_left_to_recover_from.Goals as goal

pub returns-clause-chosen : goal.returns-clause-chosen
returns-clause-chosen c count n g h s fronts files read some few lead left left_slots stand w =
    is_chosen s fronts files read g (leads n (new_store count) s (new_is count some few) lead) left left_slots stand h w

pub returns-clause-ends : goal.returns-clause-ends
returns-clause-ends c = chosen_ends
