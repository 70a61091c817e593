-- That each phase of a removal makes a lawful step.
use Rattle.mt_state.proofs.{RemovalSteps.removed_done, RemovalDrop.drop_done, RemovalLooks.{drop_ready, drop_missing, lock_back, back_ended, removal_returned}}
use Rattle.std.proofs.Common.{ap}
use Rattle.mt_remove.specs.Writes.{is_remove}
use Rattle.mt_state.proofs.removals.a_removal_is_a_step.Goals as goal

pub returns-clause-drops : goal.returns-clause-drops
returns-clause-drops c = λ core o op arena tape accounts w r h was is few there at_drop t. let g = drop_done core o h few op there at_drop was arena is tape accounts w r t in record { invariant = g.0; step = g.1 }

pub returns-clause-takes_out : goal.returns-clause-takes_out
returns-clause-takes_out c = λ core o op arena w r h is_arena few there takes from. let g = removed_done core o h few op there takes is_arena arena w r from in record { invariant = g.0; step = g.1 }

pub returns-clause-readies : goal.returns-clause-readies
returns-clause-readies c =
    λ core o op arena tape w prepared h few there at_judge untold removal t. let g = drop_ready core o h few op there at_judge untold removal (ap is_remove removal.is) arena tape w prepared t in record { invariant = g.0; step = g.1 }

pub returns-clause-misses : goal.returns-clause-misses
returns-clause-misses c =
    λ core o op arena w h few there at_judge untold removal t. let g = drop_missing core o h few op there at_judge untold removal (ap is_remove removal.is) arena w t in record { invariant = g.0; step = g.1 }

pub returns-clause-locks_back : goal.returns-clause-locks_back
returns-clause-locks_back c =
    λ core o op arena w h few there at_lock told t. let g = lock_back core o h few op there at_lock told arena w t in record { invariant = g.0; step = g.1 }

pub returns-clause-ends_back : goal.returns-clause-ends_back
returns-clause-ends_back c =
    λ core o op arena w h few there at_judge told t. let g = back_ended core o h few op there at_judge told arena w t in record { invariant = g.0; step = g.1 }

pub returns-clause-returns_all : goal.returns-clause-returns_all
returns-clause-returns_all c =
    λ core o op arena w r h few there at_unlock removes told none t. let g = removal_returned core o h few op there at_unlock removes told none arena w r t in record { invariant = g.0; step = g.1 }
