use Rattle.std.proofs.lemmas.Result.{err_from_is_err_and}
use Rattle.mt_fields.specs.Fields.{string}
use Rattle.mt_row_fields.specs.Format.{row_bytes}
use Rattle.mt_streams.proofs.BufferLemmas.{stops, Puts-trans}
use Rattle.mt_wire.proofs.writing.write_pair.Goals as goal

pub returns-in_err-write_string : goal.returns-in_err-write_string
returns-in_err-write_string g c =
    let p = err_from_is_err_and c.from_residual.result c.from_residual.ensures.1 in
    rw p.1 (stops _ _ _ _ c.args.buffer.now.items (string c.args.key.now) (row_bytes c.args.row.now) (rw c.as_bytes.ensures at c.in_err-write_string.ensures))

pub returns : goal.returns
returns g c =
    let put = rw c.as_bytes.ensures at c.in_ok-write_string.ensures in
    Puts-trans _ _ _ _ _ _ c.args.buffer.now.items c.write_string.new.buffer.items c.write_columns.new.buffer.items (string c.args.key.now) (row_bytes c.args.row.now) c.write_columns.result put.0 put.1 (rw c.columns.ensures.columns at c.write_columns.ensures)
