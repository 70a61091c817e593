use Rattle.std.proofs.Common.{refl, arith}
use Rattle.mt_state.specs.{Views.shown, declared.moves.Move.TheVariants.Moved}
use Rattle.mt_core.specs.Points.{StepsOn}
use Rattle.mt_core.proofs.AloneEnds.{chain_more, chain_number, chain_ends, run_stops, alone_first, alone_goes_on, alone_stops, undisturbed_first, undisturbed_goes_on, undisturbed_stops}
use Rattle.mt_core.proofs.inner.Inner.run_alone.Goals as goal

pub loop-init : goal.loop-init
loop-init c = record {
  kept = c.kept.ensures.invariant;
  chain = refl;
  alone = λ op alone. alone_first c.args.self.now c.args.id op c.kept.ensures.invariant c.kept.ensures.arena alone;
  undisturbed = λ op undisturbed. undisturbed_first c.args.self.now c.args.id op c.kept.ensures.invariant c.kept.ensures.arena undisturbed;
}

pub loop-preserved : goal.loop-preserved
loop-preserved c =
    let steps : StepsOn c.loop.self c.step.new.self c.args.id Moved = c.in-Moved.ensures in
    record {
      kept = c.kept-in-Moved.ensures.invariant;
      chain = chain_more (shown c.args.self.now) (shown c.loop.self) (shown c.step.new.self) c.args.id c.loop.counter c.loop.invariant.chain steps.tells;
      alone = λ op alone. alone_goes_on c.args.self.now c.loop.self c.step.new.self c.args.id op c.loop.counter (c.loop.invariant.alone op alone) steps;
      undisturbed = λ op undisturbed. undisturbed_goes_on c.args.self.now c.loop.self c.step.new.self c.args.id op c.loop.counter (c.loop.invariant.undisturbed op undisturbed) steps;
    }

pub returns-in_default : goal.returns-in_default
returns-in_default c = record {
  runs =
      run_stops (shown c.args.self.now) (shown c.loop.self) (shown c.step.new.self) c.args.id c.loop.counter c.step.result c.loop.invariant.chain c.in_default.not-Moved c.step.ensures.tells;
  alone = λ op alone. alone_stops c.args.self.now c.loop.self c.step.new.self c.args.id op c.loop.counter c.step.result c.loop.invariant.kept
      (c.loop.invariant.alone op alone) c.in_default.not-Moved c.step.ensures;
  ends =
      λ op undisturbed. undisturbed_stops c.args.self.now c.loop.self c.step.new.self c.args.id op c.loop.counter c.step.result c.loop.invariant.kept
      (chain_number c.loop.counter (shown c.args.self.now) (shown c.loop.self) c.args.id c.loop.invariant.chain) (c.loop.invariant.undisturbed op undisturbed) c.in_default.not-Moved c.step.ensures;
}

pub unreachable-requires : goal.unreachable-requires
unreachable-requires c =
    omega (arith, c.loop-test.false, chain_ends c.loop.counter (shown c.args.self.now) c.loop.self c.args.id c.loop.invariant.chain c.loop.invariant.kept)
