-- The pair that is noted is the tenant's own.
use Rattle.std.proofs.{Common.{◌≡◌, ◌≢◌, ◌<◌, ◌^◌, ◌++◌, ◌∷◌, [], length, take, drop, sym, ap, ◌∙◌, arith}, lemmas.Bool.{eqb-true, eqb-false}}
use Rattle.std.proofs.{lemmas.List.{nil_from_length, append-nil}, lemmas.Result.on_ok_weaker}
use Rattle.std.specs.List.{cons_option}
use Rattle.mt_slices.specs.Slices.{piece_bytes}
use Rattle.mt_rows.specs.Rows.{Bytes}
use Rattle.mt_border.specs.{Contents.row_of, HeldParts.pair_in_parts}
use Rattle.mt_readings.specs.Tenancies.{own_pair}
use Rattle.mt_scan.proofs.Seeing.{own_below, own_top, other_top, rest_from}
use Rattle.mt_scan.proofs.looks.see_pair.Goals as goal

pub returns-in_ok-row : goal.returns-in_ok-row
returns-in_ok-row c =
    let prefix : Bytes = c.args.prefix.now in
    let e = c.args.entry in
    let pair = c.args.pair.now in
    let t = c.args.tenant in
    let some : prefix ≢ [] = λ none. eqb-false (length prefix) 0 (sym c.is_empty.ensures ∙ c.if-not-is_empty.true) (ap length none) in
    let piece : take c.bytes_of.result c.to_be_bytes-own.result ≡ piece_bytes e.slice e.mark = ap (take c.bytes_of.result) c.to_be_bytes-own.ensures
    ∙ sym (c.bytes_of.ensures.piece e.slice) in
    let own = own_below t prefix (piece_bytes e.slice e.mark) pair.suffix (row_of (pair_in_parts pair)) (c.requires.tenant.long some) (c.requires.tenant.is some) in
    on_ok_weaker c.push.result
    (λ is. is ∙ (λ i. c.args.seen.now ++ (rest_from 4 prefix i ++ piece i ++ c.as_bytes.ensures i, c.in_ok-row.ensures i) ∷ [])
    ∙ ap (λ o. c.args.seen.now ++ cons_option o []) (sym own))
    c.push.ensures.one_more

pub returns-in_ok-row-2 : goal.returns-in_ok-row-2
returns-in_ok-row-2 c =
    let prefix : Bytes = c.args.prefix.now in
    let e = c.args.entry in
    let pair = c.args.pair.now in
    let t = c.args.tenant in
    let none : prefix ≡ [] = nil_from_length prefix (eqb-true (length prefix) 0 (sym c.if-not-is_empty.ensures)) in
    let piece : take c.bytes_of.result c.to_be_bytes-own.result ≡ piece_bytes e.slice e.mark = ap (take c.bytes_of.result) c.to_be_bytes-own.ensures
    ∙ sym (c.bytes_of.ensures.piece e.slice) in
    let fits : e.slice < 2 ^ 64 = omega arith in
    let own = own_top t e.slice c.bytes_of.result (piece_bytes e.slice e.mark) pair.suffix (row_of (pair_in_parts pair)) fits (c.bytes_of.ensures.piece e.slice)
    (c.requires.names.long none) (c.is_own.ensures.0 c.if-is_own.true) in
    on_ok_weaker c.push-then-is_own.result
    (λ is. is ∙ (λ i. c.args.seen.now ++ (
      (rest_from 4 (take c.bytes_of.result c.to_be_bytes-own.result)
          ∙ ap (drop 4) piece) i ++ c.as_bytes-then-is_own.ensures i,
      c.in_ok-row-2.ensures i,
    ) ∷ [])
    ∙ ap (λ o. c.args.seen.now ++ cons_option o []) (sym own)
    ∙ ap (λ (p : Bytes). c.args.seen.now ++ cons_option (own_pair t p (p ++ piece_bytes e.slice e.mark ++ pair.suffix) (row_of (pair_in_parts pair))) []) (sym none))
    c.push-then-is_own.ensures.one_more

pub returns-else-is_own : goal.returns-else-is_own
returns-else-is_own c =
    let prefix : Bytes = c.args.prefix.now in
    let e = c.args.entry in
    let pair = c.args.pair.now in
    let t = c.args.tenant in
    let none : prefix ≡ [] = nil_from_length prefix (eqb-true (length prefix) 0 (sym c.if-not-is_empty.ensures)) in
    let fits : e.slice < 2 ^ 64 = omega arith in
    let own = other_top t e.slice c.bytes_of.result (piece_bytes e.slice e.mark) pair.suffix (row_of (pair_in_parts pair)) fits (c.bytes_of.ensures.piece e.slice)
    (c.requires.names.long none) (λ is. let own = c.is_own.ensures.1 is in let both = sym c.if-is_own.false ∙ own in cc) in
    sym (append-nil c.args.seen.now) ∙ ap (λ o. c.args.seen.now ++ cons_option o []) (sym own)
    ∙ ap (λ (p : Bytes). c.args.seen.now ++ cons_option (own_pair t p (p ++ piece_bytes e.slice e.mark ++ pair.suffix) (row_of (pair_in_parts pair))) []) (sym none)
