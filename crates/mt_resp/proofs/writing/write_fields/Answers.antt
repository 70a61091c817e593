use Rattle.std.proofs.Common.{◌+◌, length}
use Rattle.mt_resp.specs.Numbers.{number_line}
use Rattle.mt_resp.proofs.Fields.{more_written, front_then}
use Rattle.mt_resp.proofs.writing.write_fields.Goals as goal

pub returns-in_err-write_field-clause-front : goal.returns-in_err-write_field-clause-front
returns-in_err-write_field-clause-front c =
    front_then c.args.out.now.items c.loop-index.out.items c.write_field.new.out.items _ c.loop-index.invariant c.write_field.ensures.front

pub loop-index-preserved : goal.loop-index-preserved
loop-index-preserved c =
    let cols = c.args.columns.now in
    more_written c.args.out.now.items (number_line 42 (length cols + length cols)) c.loop-index.out.items c.write_field.new.out.items cols c.loop-index.index c.index-columns-index.result c.loop-index-test.true c.index-columns-index.is c.loop-index.invariant (rw c.as_bytes.ensures at c.in_ok-write_field.ensures.ok)
