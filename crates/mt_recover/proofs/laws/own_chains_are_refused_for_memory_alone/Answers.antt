-- By each cause.
use Rattle.mt_recover.proofs.OwnFiles.{memory_over}
use Rattle.mt_recover.proofs.laws.own_chains_are_refused_for_memory_alone.Goals as goal

pub returns : goal.returns
returns c quota count n s fronts chains read e some few leads left ends left_slots has kept is =
    memory_over count n s fronts chains some few leads left ends quota read left_slots has kept e is
