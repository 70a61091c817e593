use Rattle.std.{proofs.{Common.{length}, lemmas.Result.err_from_is_err_and}, specs.Int.{w16, to_be_bytes}}
use Rattle.mt_streams.proofs.BufferLemmas.{stops, Puts-trans}
use Rattle.mt_wire.proofs.writing.write_string.Goals as goal

pub returns-in_err-write_buffered : goal.returns-in_err-write_buffered
returns-in_err-write_buffered g c =
    let p = err_from_is_err_and c.from_residual.result c.from_residual.ensures.1 in
    rw p.1 (stops _ _ _ _ c.args.buffer.now.items (to_be_bytes w16 (length c.args.text.now)) c.args.text.now (rw c.to_be_bytes.ensures at c.in_err-write_buffered.ensures))

pub returns : goal.returns
returns g c =
    let put = rw c.to_be_bytes.ensures at c.in_ok-write_buffered.ensures in
    Puts-trans _ _ _ _ _ _ c.args.buffer.now.items c.write_buffered.new.buffer.items c.write_buffered-2.new.buffer.items (to_be_bytes w16 (length c.args.text.now)) c.args.text.now c.write_buffered-2.result put.0 put.1 c.write_buffered-2.ensures
