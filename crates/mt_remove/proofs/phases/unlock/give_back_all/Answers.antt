-- That each lock may be given back behind the others, and what all leave.
use Rattle.mt_remove.proofs.Returning.{below_may, above_may, above_room, left_may, left_room, node_may, node_room, all_returned, all_step}
use Rattle.mt_remove.proofs.phases.unlock.give_back_all.Goals as goal

pub unlock_some-requires-clause-may : goal.unlock_some-requires-clause-may
unlock_some-requires-clause-may c = below_may c.args.arena.now c.args.operation c.requires.kept.0 c.args.walk.now c.args.removal.now c.facts.ensures.arena c.requires.kept.1

pub unlock_some-requires-2-clause-may : goal.unlock_some-requires-2-clause-may
unlock_some-requires-2-clause-may c = above_may c.args.arena.now c.args.operation c.requires.kept.0 c.args.walk.now c.args.removal.now c.facts.ensures.arena c.requires.kept.1 c.unlock_some.new.arena c.unlock_some.ensures.is c.unlock_some.ensures.none

pub unlock_some-requires-2-clause-room : goal.unlock_some-requires-2-clause-room
unlock_some-requires-2-clause-room c = above_room c.args.arena.now c.args.operation c.requires.kept.0 c.args.walk.now c.args.removal.now c.facts.ensures.arena c.requires.kept.1 c.unlock_some.new.arena c.unlock_some.ensures.is c.unlock_some.ensures.none c.requires.room

pub unlock_some-requires-3-clause-may : goal.unlock_some-requires-3-clause-may
unlock_some-requires-3-clause-may c = left_may c.args.arena.now c.args.operation c.requires.kept.0 c.args.walk.now c.args.removal.now c.facts.ensures.arena c.requires.kept.1 c.unlock_some.new.arena c.unlock_some.ensures.is c.unlock_some.ensures.none c.unlock_some-2.new.arena c.unlock_some-2.ensures.is c.unlock_some-2.ensures.none

pub unlock_some-requires-3-clause-room : goal.unlock_some-requires-3-clause-room
unlock_some-requires-3-clause-room c = left_room c.args.arena.now c.args.operation c.requires.kept.0 c.args.walk.now c.args.removal.now c.facts.ensures.arena c.requires.kept.1 c.unlock_some.new.arena c.unlock_some.ensures.is c.unlock_some.ensures.none c.unlock_some-2.new.arena c.unlock_some-2.ensures.is c.unlock_some-2.ensures.none c.requires.room

pub unlock-requires-clause-held : goal.unlock-requires-clause-held
unlock-requires-clause-held c = (node_may c.args.arena.now c.args.operation c.requires.kept.0 c.args.walk.now c.args.removal.now c.facts.ensures.arena c.requires.kept.1 c.unlock_some.new.arena c.unlock_some.ensures.is c.unlock_some.ensures.none c.unlock_some-2.new.arena c.unlock_some-2.ensures.is c.unlock_some-2.ensures.none c.unlock_some-3.new.arena c.unlock_some-3.ensures.is c.unlock_some-3.ensures.none).held

pub unlock-requires-clause-settled : goal.unlock-requires-clause-settled
unlock-requires-clause-settled c = (node_may c.args.arena.now c.args.operation c.requires.kept.0 c.args.walk.now c.args.removal.now c.facts.ensures.arena c.requires.kept.1 c.unlock_some.new.arena c.unlock_some.ensures.is c.unlock_some.ensures.none c.unlock_some-2.new.arena c.unlock_some-2.ensures.is c.unlock_some-2.ensures.none c.unlock_some-3.new.arena c.unlock_some-3.ensures.is c.unlock_some-3.ensures.none).settled

pub unlock-requires-clause-mine : goal.unlock-requires-clause-mine
unlock-requires-clause-mine c = (node_may c.args.arena.now c.args.operation c.requires.kept.0 c.args.walk.now c.args.removal.now c.facts.ensures.arena c.requires.kept.1 c.unlock_some.new.arena c.unlock_some.ensures.is c.unlock_some.ensures.none c.unlock_some-2.new.arena c.unlock_some-2.ensures.is c.unlock_some-2.ensures.none c.unlock_some-3.new.arena c.unlock_some-3.ensures.is c.unlock_some-3.ensures.none).mine

pub unlock-requires-clause-room : goal.unlock-requires-clause-room
unlock-requires-clause-room c = node_room c.args.arena.now c.args.operation c.requires.kept.0 c.args.walk.now c.args.removal.now c.facts.ensures.arena c.requires.kept.1 c.unlock_some.new.arena c.unlock_some.ensures.is c.unlock_some.ensures.none c.unlock_some-2.new.arena c.unlock_some-2.ensures.is c.unlock_some-2.ensures.none c.unlock_some-3.new.arena c.unlock_some-3.ensures.is c.unlock_some-3.ensures.none c.requires.room

pub returns-clause-is : goal.returns-clause-is
returns-clause-is c = all_returned c.args.arena.now c.args.operation c.requires.kept.0 c.args.walk.now c.args.removal.now c.facts.ensures.arena c.requires.kept.1 c.unlock_some.new.arena c.unlock_some.ensures.is c.unlock_some.ensures.none c.unlock_some-2.new.arena c.unlock_some-2.ensures.is c.unlock_some-2.ensures.none c.unlock_some-3.new.arena c.unlock_some-3.ensures.is c.unlock_some-3.ensures.none c.unlock.new.self c.unlock.ensures.is

pub returns-clause-step : goal.returns-clause-step
returns-clause-step c = all_step c.args.arena.now c.args.operation c.requires.kept.0 c.args.walk.now c.args.removal.now c.facts.ensures.arena c.requires.kept.1 c.unlock_some.new.arena c.unlock_some.ensures.is c.unlock_some.ensures.none c.unlock_some-2.new.arena c.unlock_some-2.ensures.is c.unlock_some-2.ensures.none c.unlock_some-3.new.arena c.unlock_some-3.ensures.is c.unlock_some-3.ensures.none c.unlock.new.self c.unlock.ensures.is c.unlock_some.ensures.step c.unlock_some-2.ensures.step c.unlock_some-3.ensures.step c.unlock.ensures.step
