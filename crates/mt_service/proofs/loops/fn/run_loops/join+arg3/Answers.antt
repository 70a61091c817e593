use Rattle.std.proofs.Common.{rules}
use Rattle.mt_crew.proofs.Sessions.{jobs_done}
use Rattle.mt_service.proofs.loops.fn.run_loops.join+arg3.Goals as goal

pub returns : goal.returns
returns g c = jobs_done _ _ (λ one done. g.E.Looper.leaves one done.worker) c.captures.loops c.map_vec.result (λ job r p. search rules) c.map_vec.ensures.len c.map_vec.ensures.each
