-- A cut after the gate leaves it closed.
use Rattle.std.proofs.Common.{length}
use Rattle.mt_checkpoint.proofs.Behind.{cut_all, cut_leaves}
use Rattle.mt_checkpoint.proofs.gate.cut_behind.Goals as goal

pub returns : goal.returns
returns g c =
    let s = g.D.Disk.state c.args.disk.now in
    let new = g.D.Disk.state c.cut.new.self in
    record {
      behind = λ honest b. cut_all s b c.cut.result (length s.now.durable) new (c.cut.ensures.crash honest) (c.cut.ensures.image honest);
      leaves = λ honest b. cut_leaves s b c.cut.result (length s.now.durable) new (c.cut.ensures.crash honest);
      count = c.cut.ensures.count;
      honest = c.cut.ensures.honest;
    }
