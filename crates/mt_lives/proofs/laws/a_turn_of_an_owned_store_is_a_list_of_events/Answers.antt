use Rattle.mt_lives.proofs.TurnNotes.{owned_turn}
use Rattle.mt_lives.proofs.laws.a_turn_of_an_owned_store_is_a_list_of_events.Goals as goal

pub returns : goal.returns
returns c = λ accounts slots standing serving worker told log old new h same here d.
    owned_turn accounts slots standing serving worker told log old.source old.logs.items new.source new.logs.items h same here d
