-- the length, the stamp and the row are put one after the other
use Rattle.std.{proofs.{Common.{◌≡◌, List, ℕ, ◌+◌, length, [], ◌∷◌, ◌++◌, arith}, lemmas.Result.err_from_is_err_and}, specs.Int.{w32, w64, to_be_bytes}}
use Rattle.mt_row_fields.specs.Format.{row_bytes}
use Rattle.mt_streams.proofs.BufferLemmas.{stops, Puts-trans}
use Rattle.mt_wire.proofs.Putting.{second_stops}
use Rattle.mt_wire.proofs.writing.write_found_stamped.Goals as goal

pub returns-in_err-write_length : goal.returns-in_err-write_length
returns-in_err-write_length g c =
    let p = err_from_is_err_and c.from_residual.result c.from_residual.ensures.1 in
    let text : List ℕ = to_be_bytes w64 c.args.found.now.stamp ++ row_bytes c.args.found.now.row in
    let len : 9 + c.row_len.result ≡ length (10 ∷ text) = omega (arith, c.row_len.ensures.exact) in
    rw p.1 (stops _ _ _ _ c.args.buffer.now.items (to_be_bytes w32 (length (10 ∷ text)) ++ 10 ∷ []) text (rw len at c.in_err-write_length.ensures))

pub returns-in_err-write_buffered : goal.returns-in_err-write_buffered
returns-in_err-write_buffered g c =
    let p = err_from_is_err_and c.from_residual-in_err-write_buffered.result c.from_residual-in_err-write_buffered.ensures.1 in
    let stamp : List ℕ = to_be_bytes w64 c.args.found.now.stamp in
    let row : List ℕ = row_bytes c.args.found.now.row in
    let len : 9 + c.row_len.result ≡ length (10 ∷ (stamp ++ row)) = omega (arith, c.row_len.ensures.exact) in
    let put = rw len at c.in_ok-write_length.ensures in
    rw p.1 (second_stops _ _ _ _ _ _ c.args.buffer.now.items c.write_length.new.buffer.items (to_be_bytes w32 (length (10 ∷ (stamp ++ row))) ++ 10 ∷ []) stamp row put.0 put.1 (rw c.to_be_bytes.ensures at c.in_err-write_buffered.ensures))

pub returns : goal.returns
returns g c =
    let stamp : List ℕ = to_be_bytes w64 c.args.found.now.stamp in
    let row : List ℕ = row_bytes c.args.found.now.row in
    let len : 9 + c.row_len.result ≡ length (10 ∷ (stamp ++ row)) = omega (arith, c.row_len.ensures.exact) in
    let put = rw len at c.in_ok-write_length.ensures in
    let told = rw c.to_be_bytes.ensures at c.in_ok-write_buffered.ensures in
    Puts-trans _ _ _ _ _ _ c.args.buffer.now.items c.write_length.new.buffer.items c.write_columns.new.buffer.items (to_be_bytes w32 (length (10 ∷ (stamp ++ row))) ++ 10 ∷ []) (stamp ++ row) c.write_columns.result put.0 put.1
    (Puts-trans _ _ _ _ _ _ c.write_length.new.buffer.items c.write_buffered.new.buffer.items c.write_columns.new.buffer.items stamp row c.write_columns.result told.0 told.1 (rw c.columns.ensures.columns at c.write_columns.ensures))
