use Rattle.mt_streams.specs.Failures.{NoFewer}
use Rattle.mt_lines.proofs.ScriptLemmas.{Progress}
use Rattle.mt_lines.proofs.script.run_script.Given as goal

-- the script is on its way
abbrev pub invariant-loop : goal.invariant-loop
invariant-loop g l = record {
  way : Progress (g.R.Source.remaining l.fn.reader) (g.R.Source.remaining l.reader) (g.W.Sink.contents l.fn.writer) (g.W.Sink.contents l.writer) l.session l.line l.counter;
  reader : NoFewer (g.R.Source.failures l.fn.reader) (g.R.Source.failures l.reader);
  writer : NoFewer (g.W.Sink.failures l.fn.writer) (g.W.Sink.failures l.writer);
}
