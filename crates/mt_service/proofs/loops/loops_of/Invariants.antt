use Rattle.std.{proofs.Common.{◌≡◌, ◌++◌}, specs.Prelude.map}
use Rattle.mt_service.specs.declared.loops.LoopWorker.{LoopWorker}
use Rattle.mt_service.proofs.loops.loops_of.Given as goal

-- the workers that have a loop, and those that are left
abbrev pub invariant-loop-worker : goal.invariant-loop-worker
invariant-loop-worker g l = record {
  loops : map (λ (one : LoopWorker g.row.L.Denot g.row.J.Denot g.row.R.Denot g.row.D.Denot). one.worker) l.loops.items ++ l.worker-iterator.rest.items ≡ l.fn.workers.items;
}
