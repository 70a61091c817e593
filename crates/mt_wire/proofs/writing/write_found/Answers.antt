use Rattle.std.{proofs.{Common.{◌≡◌, List, ℕ, ◌+◌, length, [], ◌∷◌, ◌++◌, arith}, lemmas.Result.err_from_is_err_and}, specs.Int.{w32, to_be_bytes}}
use Rattle.mt_row_fields.specs.Format.{row_bytes}
use Rattle.mt_streams.proofs.BufferLemmas.{stops, Puts-trans}
use Rattle.mt_wire.proofs.writing.write_found.Goals as goal

pub returns-in_err-write_length : goal.returns-in_err-write_length
returns-in_err-write_length g c =
    let p = err_from_is_err_and c.from_residual.result c.from_residual.ensures.1 in
    let row : List ℕ = row_bytes c.args.found.now in
    let len : 1 + c.row_len.result ≡ length (2 ∷ row) = omega (arith, c.row_len.ensures.exact) in
    rw p.1 (stops _ _ _ _ c.args.buffer.now.items (to_be_bytes w32 (length (2 ∷ row)) ++ 2 ∷ []) row (rw len at c.in_err-write_length.ensures))

pub returns : goal.returns
returns g c =
    let row : List ℕ = row_bytes c.args.found.now in
    let len : 1 + c.row_len.result ≡ length (2 ∷ row) = omega (arith, c.row_len.ensures.exact) in
    let put = rw len at c.in_ok-write_length.ensures in
    Puts-trans _ _ _ _ _ _ c.args.buffer.now.items c.write_length.new.buffer.items c.write_columns.new.buffer.items (to_be_bytes w32 (length (2 ∷ row)) ++ 2 ∷ []) row c.write_columns.result put.0 put.1 (rw c.columns.ensures.columns at c.write_columns.ensures)
