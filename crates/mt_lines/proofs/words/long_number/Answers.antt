use Rattle.std.proofs.Common.{◌≡◌, ◌∷◌, drop, ◌+◌, ◌∙◌, ap, arith, add-one, drop-cons, get_or}
use Rattle.mt_lines.{specs.Words.digits_behind, proofs.WordLemmas.too_great}
use Rattle.mt_lines.proofs.words.long_number.Goals as goal

pub returns-then-longer-from-clause-number : goal.returns-then-longer-from-clause-number
returns-then-longer-from-clause-number c =
    let word = c.args.word.now in
    let i = c.loop-byte.byte-index in
    let parted : drop i word ≡ get_or word i 0 ∷ drop (i + 1) word = rw add-one (drop-cons word i 0 c.loop-byte-test.true) in
    too_great c.args.most c.loop-byte.value (get_or word i 0) word (drop (i + 1) word)
    (c.loop-byte.invariant.value ∙ ap (digits_behind c.loop-byte.value) parted)
    (omega arith)
