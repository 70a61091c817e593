use Rattle.mt_state.proofs.{SplitSteps.{climb_done, start_done, stop_done, return_done}, Parting.{part_done, fill_done}}
use Rattle.mt_state.proofs.splits.a_split_is_a_step.Goals as goal

pub returns-clause-starts : goal.returns-clause-starts
returns-clause-starts c =
    λ core o op arena tape w s least h facts is_least few there at_start t. let g = start_done core o h few op there at_start arena tape w s least facts is_least t in record { invariant = g.0; step = g.1 }

pub returns-clause-stops : goal.returns-clause-stops
returns-clause-stops c =
    λ core o op arena tape w s h few there at_start t. let g = stop_done core o h few op there at_start arena tape w s t in record { invariant = g.0; step = g.1 }

pub returns-clause-climbs : goal.returns-clause-climbs
returns-clause-climbs c =
    λ core o op arena w s least h facts is_least few there climb t. let g = climb_done core o h few op there arena w s least facts is_least climb t in record { invariant = g.0; step = g.1 }

pub returns-clause-returns_all : goal.returns-clause-returns_all
returns-clause-returns_all c =
    λ core o op arena w s h few there at_unlock told some t. let g = return_done core o h few op there at_unlock told some arena w s t in record { invariant = g.0; step = g.1 }

pub returns-clause-parts : goal.returns-clause-parts
returns-clause-parts c =
    λ core o op arena tape accounts w row h is_arena few there put at_move t. let g = part_done core o h few op there put at_move arena tape accounts w row is_arena t in record { invariant = g.0; step = g.1 }

pub returns-clause-fills : goal.returns-clause-fills
returns-clause-fills c =
    λ core o op arena tape accounts w h few there put at_move t. let g = fill_done core o h few op there put at_move arena tape accounts w t in record { invariant = g.0; step = g.1 }
