-- What a crash leaves of the whole logs is, and a chain has what its log has from its start on.
use Rattle.mt_crashes.specs.Stores.{new_store}
use Rattle.mt_crashes.proofs.{NewStore.new_is, Kept.leads, Heart.{are_set, never_twice}}
use Rattle.mt_generations.proofs.Sets.{chains_set, chains_own, chains_apart, chains_join, none_older_over}
use Rattle.mt_generations.proofs.laws.what_is_left_of_the_chains_is_a_set.Goals as goal

pub returns-clause-set : goal.returns-clause-set
returns-clause-set c count n s fronts chains some few h left ends = chains_set fronts chains ends (are_set count n s fronts some few h left)

pub returns-clause-own : goal.returns-clause-own
returns-clause-own c count n k s fronts chains d some few h left ends there =
    chains_own fronts chains ends s (leads n (new_store count) s (new_is count some few) h) left k d there

pub returns-clause-joins : goal.returns-clause-joins
returns-clause-joins c count n k s fronts chains d some few h left ends there =
    chains_join fronts chains ends s (leads n (new_store count) s (new_is count some few) h) left k d there

pub returns-clause-apart : goal.returns-clause-apart
returns-clause-apart c count n stamp i j s fronts chains some few h left ends t =
    never_twice count n stamp i j s fronts some few h left (chains_apart fronts chains ends stamp i j t)

pub returns-clause-none_older : goal.returns-clause-none_older
returns-clause-none_older c count n s fronts chains some few h left ends =
    none_older_over fronts chains ends s (leads n (new_store count) s (new_is count some few) h) left
