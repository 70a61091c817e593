-- No log goes back, and no later recovery makes a number void up to where all go.
use Rattle.mt_crashes.specs.Stores.{new_store}
use Rattle.mt_crashes.proofs.{NewStore.new_is, Kept.leads}
use Rattle.mt_generations.proofs.{Settled.{stays, stays_whole, settles, used_settles, used_covers}, Ends.chains_begun}
use Rattle.mt_generations.proofs.laws.a_settled_base_stays.Goals as goal

pub returns-clause-stays : goal.returns-clause-stays
returns-clause-stays c count n starts k d old new some few h happens other base =
    stays starts k d old new (leads n (new_store count) old (new_is count some few) h) base happens other

pub returns-clause-stays_whole : goal.returns-clause-stays_whole
returns-clause-stays_whole c count n g files old new some few h happens none w =
    stays_whole g files old new (leads n (new_store count) old (new_is count some few) h) happens none w

pub returns-clause-settles : goal.returns-clause-settles
returns-clause-settles c count n starts k s d some few h stands covers life reach =
    settles s starts k d (leads n (new_store count) s (new_is count some few) h) stands covers life reach

pub returns-clause-used : goal.returns-clause-used
returns-clause-used c count n starts k s fronts chains read d some few h rest rest_slots ends there may covers =
    used_settles s fronts chains read (leads n (new_store count) s (new_is count some few) h) rest rest_slots ends starts k d there may covers

pub returns-clause-recovered : goal.returns-clause-recovered
returns-clause-recovered c count n g s fronts files chains read used some few h rest rest_slots ends are is_used =
    let base = used_covers s fronts chains read (leads n (new_store count) s (new_is count some few) h) rest rest_slots ends used is_used in
    (base.0, chains_begun g base.0 files chains base.1 are, base.2)
