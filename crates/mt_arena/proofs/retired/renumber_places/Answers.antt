-- one more is out by the step
use Rattle.std.proofs.Common.{refl}
use Rattle.mt_border.proofs.Sweeps.{sweeps}
use Rattle.mt_arena.specs.Idle.{retired_by}
use Rattle.mt_arena.proofs.retired.renumber_places.Goals as goal

pub loop-retired-preserved : goal.loop-retired-preserved
loop-retired-preserved c = sweeps (retired_by c.args.step) c.args.places.now c.loop-retired.places c.loop-retired.retired-index _ _ c.loop-retired-test.true c.loop-retired.invariant refl
