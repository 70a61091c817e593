use Rattle.std.proofs.Common.{rules}
use Rattle.mt_crew.specs.Servings.{IsServed}
use Rattle.mt_crew.proofs.Sessions.{jobs_done}
use Rattle.mt_crew.proofs.crew.fn.run_crew.join+arg3.Goals as goal

pub returns : goal.returns
returns g c = jobs_done _ _ (IsServed g.W.Worker.serves) c.captures.workers c.map_vec.result (λ job r p. search rules) c.map_vec.ensures.len c.map_vec.ensures.each
