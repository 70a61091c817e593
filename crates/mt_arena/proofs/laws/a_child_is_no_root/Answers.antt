use Rattle.mt_arena.proofs.Homes.{no_root}
use Rattle.mt_arena.proofs.laws.a_child_is_no_root.Goals as goal

pub returns : goal.returns
returns c = λ nodes trees k arena lt live some. ((arena.ranged.each k lt).parent some, no_root nodes trees k arena.forest lt live some)
