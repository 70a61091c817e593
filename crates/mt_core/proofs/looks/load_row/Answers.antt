-- What a load tells that had memory for the row that it shows, and who is in its way.
use Rattle.mt_border.specs.{HeldParts.pair_in_parts, Contents.row_of}
use Rattle.mt_core.proofs.LookSteps.{tells_shown, blocked_load}
use Rattle.mt_core.proofs.looks.load_row.Goals as goal

pub returns-in-Ok-shown : goal.returns-in-Ok-shown
returns-in-Ok-shown c =
    tells_shown (λ p. row_of (pair_in_parts p.now)) c.in-Ok.pair c.in-Ok-shown.reply c.args.arena.now c.args.operation.now c.args.step c.load.new.walk c.told.result c.requires.get c.in-Ok.ensures.is c.in-Ok-shown.ensures.reply c.told.ensures

pub returns-in-Err : goal.returns-in-Err
returns-in-Err c = blocked_load c.args.arena.now c.args.operation.now _ c.in-Err.holder c.requires c.in-Err.ensures.again
