use Rattle.mt_arena.proofs.Places.{one_border, one_node, one_place}
use Rattle.mt_arena.proofs.laws.one_place.Goals as goal

pub returns-clause-one_border : goal.returns-clause-one_border
returns-clause-one_border c = λ nodes trees tree slice k l arena. one_border nodes tree slice k l arena.nodes

pub returns-clause-one_node : goal.returns-clause-one_node
returns-clause-one_node c = λ nodes trees tree slice mark other k i l j arena. one_node nodes tree slice mark other k i l j arena.nodes

pub returns-clause-one_slot : goal.returns-clause-one_slot
returns-clause-one_slot c = λ nodes trees tree slice mark k i l j arena. one_place nodes tree slice mark k i l j arena.nodes
