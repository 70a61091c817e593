-- each turn reads a record, or none is read
use Rattle.std.proofs.lemmas.Result.{err_from_is_err_and}
use Rattle.mt_fields.{specs.Reading.each_at, proofs.Loop.{goes_on, ends, is_done}}
use Rattle.mt_log.specs.Reading.{record_at}
use Rattle.mt_log.proofs.records.record_list_of.Goals as goal

pub returns-in_err-record : goal.returns-in_err-record
returns-in_err-record c =
    let p = err_from_is_err_and c.from_residual.result c.from_residual.ensures.1 in
    rw (p.1, p.2) (ends (record_at c.args.old) c.in_err-record.field-0.0 c.loop.records.items c.args.count c.loop.counter c.loop.rest.now (each_at (record_at c.args.old) c.args.count c.args.bytes.now) c.loop-test.true c.in_err-record.ensures c.loop.invariant)

pub loop-preserved : goal.loop-preserved
loop-preserved c =
    rw c.in_ok-push.ensures.items (goes_on (record_at c.args.old) c.loop.records.items c.args.count c.loop.counter c.loop.rest.now c.in_ok-record.record c.in_ok-record.after.now (each_at (record_at c.args.old) c.args.count c.args.bytes.now) c.loop-test.true c.in_ok-record.ensures c.loop.invariant)

pub returns : goal.returns
returns c =
    is_done (record_at c.args.old) c.loop.records.items c.args.count c.loop.counter c.loop.rest.now (each_at (record_at c.args.old) c.args.count c.args.bytes.now) c.loop-test.false c.loop.invariant
