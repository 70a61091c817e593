use Rattle.std.{proofs.Common.{◌≡◌, ◌⊎◌, length}, specs.Io.KnownBytes.Keeps}
use Rattle.mt_streams.specs.Failures.{Failed, NoFewer}
use Rattle.mt_lines.proofs.script.next_byte.Given as goal

-- nothing was read so far, and a turn that was made failed
abbrev pub invariant-loop : goal.invariant-loop
invariant-loop g l = record {
  kept : Keeps (g.R.Source.remaining l.fn.reader) (g.R.Source.remaining l.reader);
  failures : NoFewer (g.R.Source.failures l.fn.reader) (g.R.Source.failures l.reader);
  failed : (l.counter ≡ 0) ⊎ Failed (g.R.Source.failures l.fn.reader) (g.R.Source.failures l.reader);
  room : length l.one ≡ 1;
}
