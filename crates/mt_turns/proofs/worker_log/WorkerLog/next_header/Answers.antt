-- The last log is open, and its header fits by the owner's limits and the two tests.
use Rattle.std.proofs.Common.{◌∙◌, ◌+◌, sym, ap, arith}
use Rattle.mt_log_generations.specs.Headers.{header_with}
use Rattle.mt_turns.specs.Logs.{last_of}
use Rattle.mt_turns.proofs.Beginnings.{open_of}
use Rattle.mt_turns.proofs.worker_log.WorkerLog.next_header.Goals as goal

pub returns-in-Some-clause-ok : goal.returns-in-Some-clause-ok
returns-in-Some-clause-ok g c =
    let log = c.args.self.now in
    let last = open_of (last_of log) c.in-Some.start (sym c.mark.ensures ∙ c.in-Some.is) in
    record {
      last = last.0;
      is_open = last.1;
      is = ap (header_with log.owner.worker log.owner.logs (log.generation + 1)) (sym last.2);
      fits = record {
        worker = log.owner.whose;
        logs = log.owner.few;
        numbered = omega arith;
        generation = omega (arith, c.if-self-lt-MAX_STEP.true);
        start = omega (arith, c.if-start-le-MAX_STEP.true);
      };
    }
