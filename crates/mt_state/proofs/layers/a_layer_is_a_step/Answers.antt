use Rattle.mt_state.proofs.LayerSteps.{meet_done, build_done, make_stopped, below_done, leave_done}
use Rattle.mt_state.proofs.layers.a_layer_is_a_step.Goals as goal

pub returns-clause-meets : goal.returns-clause-meets
returns-clause-meets c =
    λ core o op arena w h few there at_judge untold stays t. let g = meet_done core o h few op there at_judge untold stays arena w t in record { invariant = g.0; step = g.1 }

pub returns-clause-builds : goal.returns-clause-builds
returns-clause-builds c =
    λ core o op arena w least h facts is_least few there layer t. let g = build_done core o h few op there arena w least facts is_least layer t in record { invariant = g.0; step = g.1 }

pub returns-clause-stops : goal.returns-clause-stops
returns-clause-stops c =
    λ core o op arena w h few there at_make t. let g = make_stopped core o h few op there at_make arena w t in record { invariant = g.0; step = g.1 }

pub returns-clause-goes_below : goal.returns-clause-goes_below
returns-clause-goes_below c =
    λ core o op arena w h few there at_judge t. let g = below_done core o h few op there at_judge arena w t in record { invariant = g.0; step = g.1 }

pub returns-clause-leaves : goal.returns-clause-leaves
returns-clause-leaves c =
    λ core o op arena w h few there at_unlock untold t. let g = leave_done core o h few op there at_unlock untold arena w t in record { invariant = g.0; step = g.1 }
