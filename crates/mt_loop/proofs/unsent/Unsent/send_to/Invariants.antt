use Rattle.std.proofs.Common.{◌≡◌, ◌++◌, List, ℕ}
use Rattle.std.specs.Io.KnownBytes.{Appends}
use Rattle.mt_streams.specs.Failures.{NoFewer}
use Rattle.mt_loop.proofs.unsent.Unsent.send_to.Given as goal

-- a part was sent, and the rest is left
abbrev pub invariant-loop : goal.invariant-loop
invariant-loop g l = record {
  sent : (sent : List ℕ) × Appends (g.W.Sink.contents l.fn.writer) (g.W.Sink.contents l.writer) sent × (l.fn.self.bytes.items ≡ sent ++ l.self.bytes.items);
  failures : NoFewer (g.W.Sink.failures l.fn.writer) (g.W.Sink.failures l.writer);
}
