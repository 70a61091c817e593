use Rattle.std.proofs.Common.{arith}
use Rattle.mt_arena.proofs.Retiring.{live-le}
use Rattle.mt_arena.proofs.arena.Arena.node_count.Goals as goal

pub returns-clause-live : goal.returns-clause-live
returns-clause-live c = rw (← c.self.view_is) (omega (arith, live-le c.self.inside.nodes.items, c.len.ensures))
