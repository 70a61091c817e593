use Rattle.mt_arena.proofs.Alone.{alone}
use Rattle.mt_arena.proofs.laws.alone_in_its_tree.Goals as goal

pub returns : goal.returns
returns c nodes trees r k arena free within other tree = alone nodes trees arena r free k within other tree
