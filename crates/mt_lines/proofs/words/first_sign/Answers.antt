use Rattle.std.proofs.Common.{◌≡◌, ◌==◌, length, position, unwrap_or, arith, rules, tests}
use Rattle.std.proofs.{lemmas.Iterator.YieldsList-from_slice, lemmas.Iterator.Search.position_from_yields_List, lemmas.List.Sums.prefix_len-le-length}
use Rattle.std.specs.List.{prefix_len}
use Rattle.mt_lines.{specs.Words.is_no_sign, proofs.WordLemmas.first_place}
use Rattle.mt_lines.proofs.words.first_sign.Goals as goal

pub returns : goal.returns
returns c =
    let xs = c.args.word.now in
    let found : c.position.result ≡ position (λ byte. byte == 61) xs = position_from_yields_List _ _ _ c.position.result c.position.ensures.ran (YieldsList-from_slice _ c.iter.ensures.rest) (λ x b q k. search (rules, tests)) in
    let first : unwrap_or c.position.result (length xs) ≡ prefix_len is_no_sign xs = first_place (λ byte. byte == 61) xs c.position.result found in
    let place : c.unwrap_or.result ≡ prefix_len is_no_sign xs = cc in
    record { place = place; within = omega (arith, place, prefix_len-le-length is_no_sign xs) }
