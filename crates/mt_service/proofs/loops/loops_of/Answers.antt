-- A worker more has its loop.
use Rattle.std.proofs.Common.{◌≡◌, ◌∙◌, ◌++◌, [], ◌∷◌, List, map, rules, ap, sym, append_assoc}
use Rattle.mt_service.specs.declared.{workers.SessionWorker.SessionWorker, loops.LoopWorker.LoopWorker}
use Rattle.mt_service.proofs.loops.loops_of.Goals as goal

pub loop-worker-preserved : goal.loop-worker-preserved
loop-worker-preserved g c =
    let worker = c.in-Some.worker in
    let left = c.next.new.self.rest.items in
    let own : List (LoopWorker g.row.L.Denot g.row.J.Denot g.row.R.Denot g.row.D.Denot) → List (SessionWorker g.row.L.Denot g.row.J.Denot g.row.R.Denot g.row.D.Denot) = map (λ one. one.worker) in
    let goes : c.loop-worker.worker-iterator.rest.items ≡ worker ∷ left = search rules in
    record {
      loops =
          ap (λ l. l ++ left) c.in_ok-add_loop.ensures.loops ∙ append_assoc (own c.loop-worker.loops.items) (worker ∷ []) left
          ∙ ap (λ r. own c.loop-worker.loops.items ++ r) (sym goes) ∙ c.loop-worker.invariant.loops;
    }
