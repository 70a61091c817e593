-- the length and the pairs so far were put
use Rattle.std.{proofs.Common.{◌∷◌, ◌++◌, length, take}, specs.{List.flat_map, Int.{w32, to_be_bytes}}}
use Rattle.mt_streams.specs.{Failures.NoFewer, Buffering.Buffers}
use Rattle.mt_wire.specs.Replies.{shown_stamped}
use Rattle.mt_wire.proofs.writing.write_pairs.Given as goal

abbrev pub invariant-loop-pair : goal.invariant-loop-pair
invariant-loop-pair g l =
    Buffers (g.W.Sink.contents l.fn.writer) (g.W.Sink.contents l.writer) l.fn.buffer.items l.buffer.items (to_be_bytes w32 (length (6 ∷ length l.pairs ∷ flat_map shown_stamped l.pairs)) ++ (6 ∷ length l.pairs ∷ flat_map shown_stamped (take l.pair-index l.pairs)))
    × NoFewer (g.W.Sink.failures l.fn.writer) (g.W.Sink.failures l.writer)
