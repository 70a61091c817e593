use Rattle.std.proofs.lemmas.Result.{err_from_is_err_and}
use Rattle.mt_streams.proofs.BufferLemmas.{WritesFront-more, straight}
use Rattle.mt_streams.proofs.buffering.write_buffered.Goals as goal

pub returns-in_err-flush : goal.returns-in_err-flush
returns-in_err-flush g c =
    let p = err_from_is_err_and c.from_residual.result c.from_residual.ensures.1 in
    rw p.1 (WritesFront-more _ _ c.args.buffer.now.items c.args.text.now c.in_err-flush.ensures.err, c.in_err-flush.ensures.cause)

pub returns : goal.returns
returns g c =
    straight _ _ _ _ _ _ c.args.buffer.now.items c.flush.new.buffer.items c.args.text.now c.write_whole.result c.in_ok-flush.ensures.ok c.in_ok-flush.ensures.emptied c.flush.ensures.failures c.write_whole.ensures.ok c.write_whole.ensures.err c.write_whole.ensures.failures c.write_whole.ensures.cause
