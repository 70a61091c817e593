-- The log has what the worker was drained of so far, and keeps no batch.
use Rattle.std.proofs.Common.{◌-◌, ◌≡◌, None}
use Rattle.mt_store_logs.specs.Flushes.{HasDrained}
use Rattle.mt_store_logs.proofs.flushing.drain_upto.Given as goal

abbrev pub invariant-loop-mark : goal.invariant-loop-mark
invariant-loop-mark g l = record {
  serves : g.S.Source.serves l.source l.worker l.upto;
  whose : l.log.worker ≡ l.worker;
  generation : l.log.generation ≡ l.fn.log.generation;
  none : l.log.kept ≡ None;
  drains : HasDrained g.D.Disk.is_honest g.D.Disk.state g.D.Disk.failures g.S.Source.gives l.worker l.upto l.mark l.fn.log l.log l.fn.source l.source;
}

abbrev pub decreases-loop-mark : goal.decreases-loop-mark
decreases-loop-mark g l = l.upto - l.mark
