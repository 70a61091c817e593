-- Records and void numbers up to the starts count for nothing over a base that covers what was given up.
use Rattle.mt_crashes.specs.Stores.{new_store}
use Rattle.mt_crashes.proofs.{NewStore.new_is, Kept.leads}
use Rattle.mt_generations.proofs.Whole.{recovered_over}
use Rattle.mt_generations.proofs.laws.what_is_left_of_the_chains_is_enough.Goals as goal

pub returns : goal.returns
returns c count n s fronts chains read cutoff resume used found some few h left left_slots ends r =
    recovered_over s fronts chains (leads n (new_store count) s (new_is count some few) h) left ends read cutoff resume used found left_slots r
