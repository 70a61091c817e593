-- A write after the gate leaves it closed.
use Rattle.std.proofs.Common.{◌+◌, length}
use Rattle.mt_checkpoint.proofs.Crash.{more_leaves}
use Rattle.mt_checkpoint.proofs.gate.write_more.Goals as goal

pub returns-clause-leaves : goal.returns-clause-leaves
returns-clause-leaves g c honest text behind end =
    more_leaves text (g.D.Disk.state c.args.disk.now) behind c.args.end (c.args.end + length c.args.block.now) c.write_at.result (g.D.Disk.state c.write_at.new.self) end (c.write_at.ensures.crash honest)
