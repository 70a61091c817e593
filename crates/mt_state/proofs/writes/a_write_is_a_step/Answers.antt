use Rattle.std.proofs.Common.{refl}
use Rattle.mt_state.{specs.Views.shown, proofs.{Locking.{lock_done, unlock_done, judge_ready, judge_refused, publish_full}, FillSteps.fill_done, Putting.{store_done, publish_done}, Staling.judge_stale}}
use Rattle.mt_state.proofs.writes.a_write_is_a_step.Goals as goal

pub returns-clause-locks : goal.returns-clause-locks
returns-clause-locks c =
    λ core o op arena w h few there at_lock t. let g = lock_done core (shown core) o refl h few op there at_lock arena w t in record { invariant = g.0; step = g.1 }

pub returns-clause-readies : goal.returns-clause-readies
returns-clause-readies c =
    λ core o op arena tape w prepared h few there at_judge untold put t. let g = judge_ready core (shown core) o refl h few op there at_judge untold put.put_is arena tape w prepared t in record { invariant = g.0; step = g.1 }

pub returns-clause-stops : goal.returns-clause-stops
returns-clause-stops c =
    λ core o op arena w h few there at_judge untold t. let g = judge_refused core (shown core) o refl h few op there at_judge untold arena core.tape w refl t in record { invariant = g.0; step = g.1 }

pub returns-clause-finds_stale : goal.returns-clause-finds_stale
returns-clause-finds_stale c =
    λ core o op arena w stamp h few there at_judge untold put t. let g = judge_stale core o h few op there at_judge put arena w stamp t untold in record { invariant = g.0; step = g.1 }

pub returns-clause-stores : goal.returns-clause-stores
returns-clause-stores c =
    λ core o op arena tape w row before h is_arena few there put at_store t. let g = store_done core (shown core) o refl h few op there put at_store arena tape w row before is_arena t in record { invariant = g.0; step = g.1 }

pub returns-clause-fills_slot : goal.returns-clause-fills_slot
returns-clause-fills_slot c =
    λ core o op arena w prepared rest h few there at_fill t. let g = fill_done core (shown core) o refl h few op there at_fill prepared rest arena w t in record { invariant = g.0; step = g.1 }

pub returns-clause-publishes : goal.returns-clause-publishes
returns-clause-publishes c =
    λ core o op arena tape accounts w row h is_arena few there put at_publish t. let g = publish_done core (shown core) o refl h few op there put at_publish arena tape accounts w row is_arena t in record { invariant = g.0; step = g.1 }

pub returns-clause-fills : goal.returns-clause-fills
returns-clause-fills c =
    λ core o op arena tape accounts w h few there put at_publish t. let g = publish_full core (shown core) o refl h few op there at_publish put arena tape accounts w t in record { invariant = g.0; step = g.1 }

pub returns-clause-unlocks : goal.returns-clause-unlocks
returns-clause-unlocks c =
    λ core o op arena w h few there at_unlock puts told none t. let g = unlock_done core (shown core) o refl h few op there at_unlock puts told none arena w t in record { invariant = g.0; step = g.1 }
