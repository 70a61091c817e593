use Rattle.mt_arena.proofs.Heights.{below_live, root_below_live}
use Rattle.mt_arena.proofs.laws.a_level_needs_a_node.Goals as goal

pub returns-clause-node : goal.returns-clause-node
returns-clause-node c = λ nodes trees k arena there live range. below_live nodes arena.nodes arena.ranged k there live range

pub returns-clause-root : goal.returns-clause-root
returns-clause-root c = root_below_live
