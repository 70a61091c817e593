-- the columns so far were put
use Rattle.std.{proofs.Common.{◌∷◌, length, take}, specs.List.flat_map}
use Rattle.mt_fields.specs.Fields.{string}
use Rattle.mt_streams.specs.{Failures.NoFewer, Buffering.Buffers}
use Rattle.mt_wire.proofs.writing.write_columns.Given as goal

abbrev pub invariant-loop-column : goal.invariant-loop-column
invariant-loop-column g l =
    Buffers (g.W.Sink.contents l.fn.writer) (g.W.Sink.contents l.writer) l.fn.buffer.items l.buffer.items (length l.columns ∷ flat_map string (take l.column-index l.columns))
    × NoFewer (g.W.Sink.failures l.fn.writer) (g.W.Sink.failures l.writer)
