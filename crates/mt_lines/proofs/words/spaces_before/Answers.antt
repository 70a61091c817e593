use Rattle.std.proofs.Common.{◌≡◌, ◌∙◌, ◌==◌, not, sym, length, position, unwrap_or, arith, rules, tests}
use Rattle.std.proofs.{lemmas.Iterator.YieldsList-from_slice, lemmas.Iterator.Search.position_from_yields_List, lemmas.List.Sums.prefix_len-le-length}
use Rattle.std.specs.List.{prefix_len}
use Rattle.mt_lines.{specs.Words.is_space, proofs.WordLemmas.{first_place, spaces_end}}
use Rattle.mt_lines.proofs.words.spaces_before.Goals as goal

pub returns : goal.returns
returns c =
    let xs = c.args.bytes.now in
    let found : c.position.result ≡ position (λ byte. not (byte == 32)) xs = position_from_yields_List _ _ _ c.position.result c.position.ensures.ran (YieldsList-from_slice _ c.iter.ensures.rest) (λ x b q k. search (rules, tests)) in
    let first : unwrap_or c.position.result (length xs) ≡ prefix_len is_space xs = first_place (λ byte. not (byte == 32)) xs c.position.result found ∙ sym (spaces_end xs) in
    let spaces : c.unwrap_or.result ≡ prefix_len is_space xs = cc in
    record { spaces = spaces; within = omega (arith, spaces, prefix_len-le-length is_space xs) }
