use Rattle.mt_arena.proofs.ChildPlace.{child_place}
use Rattle.mt_arena.proofs.laws.a_child_stands_where_it_begins.Goals as goal

pub returns : goal.returns
returns c nodes trees parent k place arena lq lk live inside is = child_place nodes parent k place arena.nodes lq lk live inside is
