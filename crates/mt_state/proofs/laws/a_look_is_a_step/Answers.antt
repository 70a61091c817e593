use Rattle.std.proofs.Common.{refl}
use Rattle.mt_state.specs.Views.{shown}
use Rattle.mt_state.proofs.{Reading.{descend_done, search_missing, search_found}, Loading.{load_taken, load_stopped}, Confirming.{confirm_done, confirm_back}}
use Rattle.mt_state.proofs.laws.a_look_is_a_step.Goals as goal

pub returns-clause-descends : goal.returns-clause-descends
returns-clause-descends c =
    λ core o op w h few there descends goes learns kept. let g = descend_done core (shown core) o refl h few op there w descends goes learns kept in record { invariant = g.0; step = g.1 }

pub returns-clause-misses : goal.returns-clause-misses
returns-clause-misses c =
    λ core o op w found h arena few there at_search s phase. let g = search_missing core (shown core) o refl h few arena op there at_search w found s.finds s.is s.kept phase in record { invariant = g.0; step = g.1 }

pub returns-clause-finds : goal.returns-clause-finds
returns-clause-finds c =
    λ core o op w found h arena few there at_search s phase. let g = search_found core (shown core) o refl h few arena op there at_search w found s.finds s.is s.kept phase in record { invariant = g.0; step = g.1 }

pub returns-clause-takes : goal.returns-clause-takes
returns-clause-takes c =
    λ core o op w row told h arena few there at_load t shows. let g = load_taken core (shown core) o refl h few arena op there at_load w row told t.loads shows t.same t.kept in record { invariant = g.0; step = g.1 }

pub returns-clause-stops : goal.returns-clause-stops
returns-clause-stops c =
    λ core o op w h arena few there at_load done same. let g = load_stopped core (shown core) o refl h few arena op there at_load w done same in record { invariant = g.0; step = g.1 }

pub returns-clause-ends : goal.returns-clause-ends
returns-clause-ends c =
    λ core o op w h few there at_confirm t done. let g = confirm_done core (shown core) o refl h few op there at_confirm w t.same t.confirms t.kept done in record { invariant = g.0; step = g.1 }

pub returns-clause-goes_back : goal.returns-clause-goes_back
returns-clause-goes_back c =
    λ core o op w h few there at_confirm t goes. let g = confirm_back core (shown core) o refl h few op there at_confirm w t.same t.confirms t.kept goes in record { invariant = g.0; step = g.1 }
