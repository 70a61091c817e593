-- each turn puts a column after those before it
use Rattle.std.{proofs.{Common.{[], ◌∷◌, length}, lemmas.Result.err_from_is_err_and}, specs.List.flat_map}
use Rattle.mt_fields.specs.Fields.{string}
use Rattle.mt_streams.proofs.{BufferLemmas.stops, FailureLemmas.NoFewer-trans}
use Rattle.mt_wire.proofs.Putting.{put_more, put_stops}
use Rattle.mt_wire.proofs.writing.write_columns.Goals as goal

pub returns-in_err-write_buffered : goal.returns-in_err-write_buffered
returns-in_err-write_buffered g c =
    let p = err_from_is_err_and c.from_residual.result c.from_residual.ensures.1 in
    rw p.1 (stops _ _ _ _ c.args.buffer.now.items (length c.args.columns.now ∷ []) (flat_map string c.args.columns.now) c.in_err-write_buffered.ensures)

pub returns-in_err-write_string : goal.returns-in_err-write_string
returns-in_err-write_string g c =
    let p = err_from_is_err_and c.from_residual-in_err-write_string.result c.from_residual-in_err-write_string.ensures.1 in
    rw p.1 (put_stops string _ _ _ _ _ _ c.args.buffer.now.items c.loop-column.buffer.items (length c.args.columns.now ∷ []) c.args.columns.now c.loop-column.column-index c.column-item.result c.loop-column-test.true c.column-item.is c.loop-column.invariant.0 c.loop-column.invariant.1 (rw c.as_bytes.ensures at c.in_err-write_string.ensures))

pub loop-column-preserved : goal.loop-column-preserved
loop-column-preserved g c =
    let put = rw c.as_bytes.ensures at c.in_ok-write_string.ensures in (
      put_more string _ _ _ c.args.buffer.now.items c.loop-column.buffer.items c.write_string.new.buffer.items (length c.args.columns.now ∷ []) c.args.columns.now c.loop-column.column-index c.column-item.result c.loop-column-test.true c.column-item.is c.loop-column.invariant.0 put.0,
      NoFewer-trans _ _ _ c.loop-column.invariant.1 put.1,
    )
