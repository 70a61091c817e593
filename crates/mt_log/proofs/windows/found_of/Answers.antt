-- Batches that stop at what isn't in the format are no log.
use Rattle.std.proofs.Common.{drop}
use Rattle.mt_log.proofs.ReadLaws.{bad_gate, stopped_bad}
use Rattle.mt_log.proofs.windows.found_of.Goals as goal

pub returns-in-Open-clause-told : goal.returns-in-Open-clause-told
returns-in-Open-clause-told c = λ kind image of head is.
    let start = c.args.start in
    let reader = c.args.reader in
    stopped_bad kind image start reader.place c.args.mark c.args.batches.items of c.requires.limits c.requires.batches head is.stand (bad_gate start.version (drop reader.place image) reader.head c.in-Open.is is.stops)
