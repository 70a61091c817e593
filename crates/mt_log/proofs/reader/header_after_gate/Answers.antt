-- What 24 bytes after the gate spell, the bytes begin with.
use Rattle.mt_log.proofs.HeaderReads.{after_gate, rest_of, header_whole, header_bad}
use Rattle.mt_log.proofs.reader.header_after_gate.Goals as goal

pub returns-in-Some-clause-whole : goal.returns-in-Some-clause-whole
returns-in-Some-clause-whole c =
    let bytes = c.args.bytes.now in
    header_whole bytes c.in-Some.header.now (after_gate bytes c.in-len1-up.len_at_least c.if-gate-ne-OPEN.false) (rest_of bytes c.in-Some.header.now c.in-len1-up.len_at_least c.in-Some.ensures.cases.0) c.header_of.result c.header_of.ensures.ok

pub returns-in-Some-clause-err : goal.returns-in-Some-clause-err
returns-in-Some-clause-err c =
    let bytes = c.args.bytes.now in
    header_bad bytes c.in-Some.header.now (after_gate bytes c.in-len1-up.len_at_least c.if-gate-ne-OPEN.false) (rest_of bytes c.in-Some.header.now c.in-len1-up.len_at_least c.in-Some.ensures.cases.0) c.header_of.result c.header_of.ensures.err
