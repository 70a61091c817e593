use Rattle.std.proofs.Common.{arith}
use Rattle.mt_resp.proofs.Commands.{shorter, whole}
use Rattle.mt_resp.proofs.words.decode.Goals as goal

pub overflow_sub-len : goal.overflow_sub-len
overflow_sub-len c = let less = shorter c.args.bytes.now c.in-Ok.rest.now c.in-Ok.words.items c.in-Ok.ensures in omega arith

pub returns-else-len-gt-COMMAND_BYTES : goal.returns-else-len-gt-COMMAND_BYTES
returns-else-len-gt-COMMAND_BYTES c = rw c.new.ensures (whole c.args.bytes.now c.in-Ok.rest.now c.in-Ok.words.items c.in-Ok.ensures (omega arith))
