use Rattle.std.{proofs.Common.{◌≡◌, ◌≤◌, ◌⊎◌, ℕ, List, ◌++◌, length}, specs.Io.KnownBytes.Appends}
use Rattle.mt_streams.specs.Failures.{Failed, NoFewer}
use Rattle.mt_streams.proofs.writing.write_whole.Given as goal

-- a front of the text was written, of a byte at least for each turn that did not fail
abbrev pub invariant-loop : goal.invariant-loop
invariant-loop g l = (done : List ℕ) × (l.text ≡ done ++ l.rest) × Appends (g.W.Sink.contents l.fn.writer) (g.W.Sink.contents l.writer) done
    × NoFewer (g.W.Sink.failures l.fn.writer) (g.W.Sink.failures l.writer) × ((l.counter ≤ length done) ⊎ Failed (g.W.Sink.failures l.fn.writer) (g.W.Sink.failures l.writer))
