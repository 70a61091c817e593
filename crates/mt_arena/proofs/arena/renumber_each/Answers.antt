-- one more is renumbered
use Rattle.mt_border.{proofs.Sweeps.sweeps, specs.Restamps.new_stamp}
use Rattle.mt_arena.specs.Renumbers.{renumbered}
use Rattle.mt_arena.proofs.arena.renumber_each.Goals as goal

pub loop-node-preserved : goal.loop-node-preserved
loop-node-preserved c = sweeps (renumbered (new_stamp c.args.stamps.now)) c.args.nodes.now c.loop-node.nodes c.loop-node.node-index _ c.renumber.new.self c.loop-node-test.true c.loop-node.invariant c.renumber.ensures
