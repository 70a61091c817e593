-- One drain more, towards the step that was asked for.
use Rattle.std.proofs.Common.{◌∙◌}
use Rattle.mt_store_logs.proofs.DrainLaws.{smaller, more, stops}
use Rattle.mt_store_logs.proofs.flushing.drain_upto.Goals as goal

pub loop-mark-smaller : goal.loop-mark-smaller
loop-mark-smaller g c =
    smaller g.D.Disk.is_honest g.D.Disk.state g.D.Disk.failures g.S.Source.gives c.args.worker c.args.upto c.loop-mark.mark c.in-Ok.next
    c.args.log.now c.loop-mark.log c.drain_once-in-loop-mark.new.log c.args.source.now c.loop-mark.source c.drain_once-in-loop-mark.new.source
    c.loop-mark.invariant.drains c.loop-mark-test.true c.in-Ok.ensures.ok

pub loop-mark-preserved : goal.loop-mark-preserved
loop-mark-preserved g c = record {
  serves = c.in-Ok.ensures.serves;
  whose = c.drain_once-in-loop-mark.ensures.worker;
  generation = c.drain_once-in-loop-mark.ensures.generation ∙ c.loop-mark.invariant.generation;
  none = c.in-Ok.ensures.ok.appended.appends.none;
  drains =
      more g.D.Disk.is_honest g.D.Disk.state g.D.Disk.failures g.S.Source.gives c.args.worker c.args.upto c.loop-mark.mark c.in-Ok.next
      c.args.log.now c.loop-mark.log c.drain_once-in-loop-mark.new.log c.args.source.now c.loop-mark.source c.drain_once-in-loop-mark.new.source
      c.loop-mark.invariant.drains c.loop-mark-test.true c.in-Ok.ensures.ok;
}

pub returns-in-Err-clause-err : goal.returns-in-Err-clause-err
returns-in-Err-clause-err g c =
    stops g.D.Disk.is_honest g.D.Disk.state g.D.Disk.failures g.S.Source.gives c.args.worker c.args.upto c.loop-mark.mark c.in-Err.refusal
    c.args.log.now c.loop-mark.log c.drain_once-in-loop-mark.new.log c.args.source.now c.loop-mark.source c.drain_once-in-loop-mark.new.source
    c.loop-mark.invariant.drains c.loop-mark-test.true c.in-Err.ensures.err
