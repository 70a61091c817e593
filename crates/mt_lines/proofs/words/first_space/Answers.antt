use Rattle.std.proofs.Common.{◌≡◌, ◌==◌, length, position, unwrap_or, arith, rules, tests}
use Rattle.std.proofs.{lemmas.Iterator.YieldsList-from_slice, lemmas.Iterator.Search.position_from_yields_List, lemmas.List.Sums.prefix_len-le-length}
use Rattle.std.specs.List.{prefix_len}
use Rattle.mt_lines.{specs.Words.is_of_word, proofs.WordLemmas.first_place}
use Rattle.mt_lines.proofs.words.first_space.Goals as goal

pub returns : goal.returns
returns c =
    let xs = c.args.bytes.now in
    let found : c.position.result ≡ position (λ byte. byte == 32) xs = position_from_yields_List _ _ _ c.position.result c.position.ensures.ran (YieldsList-from_slice _ c.iter.ensures.rest) (λ x b q k. search (rules, tests)) in
    let first : unwrap_or c.position.result (length xs) ≡ prefix_len is_of_word xs = first_place (λ byte. byte == 32) xs c.position.result found in
    let place : c.unwrap_or.result ≡ prefix_len is_of_word xs = cc in
    record { place = place; within = omega (arith, place, prefix_len-le-length is_of_word xs) }
