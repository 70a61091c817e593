use Rattle.std.{proofs.{Common.{[], ◌∷◌}, lemmas.Result.err_from_is_err_and}, specs.Int.{w64, to_be_bytes}}
use Rattle.mt_streams.proofs.BufferLemmas.{stops, Puts-trans}
use Rattle.mt_wire.proofs.writing.write_number.Goals as goal

pub returns-in_err-write_buffered : goal.returns-in_err-write_buffered
returns-in_err-write_buffered g c =
    let p = err_from_is_err_and c.from_residual.result c.from_residual.ensures.1 in
    rw p.1 (stops _ _ _ _ c.args.buffer.now.items (0 ∷ 0 ∷ 0 ∷ 9 ∷ c.args.kind ∷ []) (to_be_bytes w64 c.args.number) c.in_err-write_buffered.ensures)

pub returns : goal.returns
returns g c =
    Puts-trans _ _ _ _ _ _ c.args.buffer.now.items c.write_buffered.new.buffer.items c.write_buffered-2.new.buffer.items (0 ∷ 0 ∷ 0 ∷ 9 ∷ c.args.kind ∷ []) (to_be_bytes w64 c.args.number) c.write_buffered-2.result c.in_ok-write_buffered.ensures.0 c.in_ok-write_buffered.ensures.1 (rw c.to_be_bytes.ensures at c.write_buffered-2.ensures)
