use Rattle.std.proofs.Common.{ℕ, [], length}
use Rattle.mt_rows.specs.Rows.{Bytes}
use Rattle.mt_streams.specs.{Buffering.Buffers, Failures.NoFewer}
use Rattle.mt_session.specs.Answering.{TranscriptOf}
use Rattle.mt_session.proofs.serving.answer_all.Given as goal

-- the calls so far are one call over an empty output
abbrev pub invariant-loop : goal.invariant-loop
invariant-loop g l =
    (count : ℕ) × (text : Bytes) × TranscriptOf g.C.Caller.exchanges count l.fn.buffers.input.items l.fn.opened l.fn.caller l.input.items l.opened l.caller text
    × Buffers (g.W.Sink.contents l.fn.writer) (g.W.Sink.contents l.writer) [] l.output.items text
    × NoFewer (g.W.Sink.failures l.fn.writer) (g.W.Sink.failures l.writer)

abbrev pub decreases-loop : goal.decreases-loop
decreases-loop g l = length l.input.items
