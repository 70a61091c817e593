-- the length and the count are put, and each turn puts a pair after those before it
use Rattle.std.{proofs.{Common.{◌≡◌, List, ℕ, ◌+◌, [], ◌∷◌, ◌++◌, length, arith}, lemmas.Result.err_from_is_err_and}, specs.{List.flat_map, Int.{w32, to_be_bytes}}}
use Rattle.mt_wire.specs.Replies.{shown_stamped}
use Rattle.mt_streams.proofs.{BufferLemmas.{stops, Buffers-trans}, FailureLemmas.NoFewer-trans}
use Rattle.mt_wire.proofs.Putting.{put_more, put_stops, second_stops}
use Rattle.mt_wire.proofs.writing.write_pairs.Goals as goal

pub returns-in_err-write_length : goal.returns-in_err-write_length
returns-in_err-write_length g c =
    let p = err_from_is_err_and c.from_residual.result c.from_residual.ensures.1 in
    let pairs : List ℕ = flat_map shown_stamped c.args.pairs.now in
    let body : List ℕ = 6 ∷ length c.args.pairs.now ∷ pairs in
    let len : 2 + c.pairs_len.result ≡ length body = omega (arith, c.pairs_len.ensures.exact) in
    rw p.1 (stops _ _ _ _ c.args.buffer.now.items (to_be_bytes w32 (length body) ++ 6 ∷ []) (length c.args.pairs.now ∷ pairs) (rw len at c.in_err-write_length.ensures))

pub returns-in_err-write_buffered : goal.returns-in_err-write_buffered
returns-in_err-write_buffered g c =
    let p = err_from_is_err_and c.from_residual-in_err-write_buffered.result c.from_residual-in_err-write_buffered.ensures.1 in
    let pairs : List ℕ = flat_map shown_stamped c.args.pairs.now in
    let body : List ℕ = 6 ∷ length c.args.pairs.now ∷ pairs in
    let len : 2 + c.pairs_len.result ≡ length body = omega (arith, c.pairs_len.ensures.exact) in
    let put = rw len at c.in_ok-write_length.ensures in
    rw p.1 (second_stops _ _ _ _ _ _ c.args.buffer.now.items c.write_length.new.buffer.items (to_be_bytes w32 (length body) ++ 6 ∷ []) (length c.args.pairs.now ∷ []) pairs put.0 put.1 c.in_err-write_buffered.ensures)

pub loop-pair-init : goal.loop-pair-init
loop-pair-init g c =
    let pairs : List ℕ = flat_map shown_stamped c.args.pairs.now in
    let body : List ℕ = 6 ∷ length c.args.pairs.now ∷ pairs in
    let len : 2 + c.pairs_len.result ≡ length body = omega (arith, c.pairs_len.ensures.exact) in
    let put = rw len at c.in_ok-write_length.ensures in (
      Buffers-trans _ _ _ c.args.buffer.now.items c.write_length.new.buffer.items c.write_buffered.new.buffer.items (to_be_bytes w32 (length body) ++ 6 ∷ []) (length c.args.pairs.now ∷ []) put.0 c.in_ok-write_buffered.ensures.0,
      NoFewer-trans _ _ _ put.1 c.in_ok-write_buffered.ensures.1,
    )

pub returns-in_err-write_pair : goal.returns-in_err-write_pair
returns-in_err-write_pair g c =
    let p = err_from_is_err_and c.from_residual-in_err-write_pair.result c.from_residual-in_err-write_pair.ensures.1 in
    let head : List ℕ = to_be_bytes w32 (length (6 ∷ length c.args.pairs.now ∷ flat_map shown_stamped c.args.pairs.now)) ++ (6 ∷ length c.args.pairs.now ∷ []) in
    rw p.1 (put_stops shown_stamped _ _ _ _ _ _ c.args.buffer.now.items c.loop-pair.buffer.items head c.args.pairs.now c.loop-pair.pair-index c.pair-item.result c.loop-pair-test.true c.pair-item.is c.loop-pair.invariant.0 c.loop-pair.invariant.1 c.in_err-write_pair.ensures)

pub loop-pair-preserved : goal.loop-pair-preserved
loop-pair-preserved g c =
    let head : List ℕ = to_be_bytes w32 (length (6 ∷ length c.args.pairs.now ∷ flat_map shown_stamped c.args.pairs.now)) ++ (6 ∷ length c.args.pairs.now ∷ []) in
    let put = c.in_ok-write_pair.ensures in (
      put_more shown_stamped _ _ _ c.args.buffer.now.items c.loop-pair.buffer.items c.write_pair.new.buffer.items head c.args.pairs.now c.loop-pair.pair-index c.pair-item.result c.loop-pair-test.true c.pair-item.is c.loop-pair.invariant.0 put.0,
      NoFewer-trans _ _ _ c.loop-pair.invariant.1 put.1,
    )
