use Rattle.mt_operation.specs.Operations.{OperationView}
use Rattle.mt_state.specs.{Views.shown, Invariant.StateInvariant}
use Rattle.mt_core.{specs.Alone.{IsChain, IsAlone, IsUndisturbed}, proofs.AloneEnds.{GoesAlone, GoesUndisturbed}}
use Rattle.mt_core.proofs.inner.Inner.run_alone.Given as goal

-- the steps so far lead here; and nobody is in the way of an operation that is alone, or that nobody disturbs any more, which has made them all
abbrev pub invariant-loop : goal.invariant-loop
invariant-loop l = record {
  kept : StateInvariant l.self;
  chain : IsChain l.counter (shown l.initial.self) (shown l.self) l.id;
  alone : (op : OperationView) → IsAlone (shown l.initial.self) l.id op → GoesAlone l.initial.self l.self l.id op l.counter;
  undisturbed : (op : OperationView) → IsUndisturbed (shown l.initial.self) l.id op
      → GoesUndisturbed l.initial.self l.self l.id op l.counter;
}
