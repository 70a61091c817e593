use Rattle.std.proofs.Common.{◌≤◌, ◌+◌, length}
use Rattle.mt_rows.specs.Rows.{Bytes}
use Rattle.mt_streams.specs.{Buffering.Buffers, Failures.NoFewer}
use Rattle.mt_session.specs.Answering.{TranscriptOf}
use Rattle.mt_session.proofs.answering.answer.Given as goal

-- each turn so far answered one request
abbrev pub invariant-loop : goal.invariant-loop
invariant-loop g l =
    (text : Bytes) × TranscriptOf g.C.Caller.exchanges l.counter l.fn.input.items l.fn.opened l.fn.caller l.input.items l.opened l.caller text
    × Buffers (g.W.Sink.contents l.fn.writer) (g.W.Sink.contents l.writer) l.fn.output.items l.output.items text
    × NoFewer (g.W.Sink.failures l.fn.writer) (g.W.Sink.failures l.writer)
    × (length l.input.items + l.counter ≤ length l.fn.input.items)
