-- each turn reads a column by its index, or none is read
use Rattle.std.proofs.lemmas.Result.{err_from_is_err_and}
use Rattle.mt_fields.{specs.Reading.each_at, proofs.Loop.{goes_on, ends, is_done}}
use Rattle.mt_row_fields.specs.Reading.{named_at}
use Rattle.mt_row_fields.proofs.changes.named_list_of.Goals as goal

pub returns-in_err-column : goal.returns-in_err-column
returns-in_err-column c =
    let p = err_from_is_err_and c.from_residual-in_err-column.result c.from_residual-in_err-column.ensures.1 in
    rw (p.1, p.2) (ends named_at c.in_err-column.field-0.0 c.loop.columns.items c.args.count c.loop.counter c.loop.rest.now (each_at named_at c.args.count c.args.bytes.now) c.loop-test.true c.in_err-column.ensures c.loop.invariant)

pub loop-preserved : goal.loop-preserved
loop-preserved c =
    rw c.in_ok-push.ensures.items (goes_on named_at c.loop.columns.items c.args.count c.loop.counter c.loop.rest.now c.in_ok-column.column c.in_ok-column.after.now (each_at named_at c.args.count c.args.bytes.now) c.loop-test.true c.in_ok-column.ensures c.loop.invariant)

pub returns : goal.returns
returns c =
    is_done named_at c.loop.columns.items c.args.count c.loop.counter c.loop.rest.now (each_at named_at c.args.count c.args.bytes.now) c.loop-test.false c.loop.invariant
