use Rattle.std.proofs.lemmas.Result.{on_err_weaker}
use Rattle.mt_wire.specs.Replies.{reply_spelling}
use Rattle.mt_loop.proofs.Settles.{front_flushed}
use Rattle.mt_loop.proofs.connection.reply_into.Goals as goal

pub returns-clause-err : goal.returns-clause-err
returns-clause-err c =
    on_err_weaker c.flush.result (front_flushed c.args.unsent.now.bytes.items c.write_reply.new.writer.bytes.items c.flush.new.writer.bytes.items c.new-output.result.items c.write_reply.new.buffer.items (reply_spelling c.args.reply.now) c.new-output.ensures.items c.in_ok-write_reply.ensures.0) c.flush.ensures.err
