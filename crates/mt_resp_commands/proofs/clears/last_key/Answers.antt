use Rattle.std.proofs.Common.{◌≡◌, ◌++◌, ◌∷◌, [], ◌∙◌, sym, ap, length, get_or, ◌-◌, rules, arith}
use Rattle.mt_rows.specs.{Rows.Bytes, Stamps.Stamped}
use Rattle.mt_resp_commands.proofs.Pages.{at_the_end}
use Rattle.mt_resp_commands.proofs.clears.last_key.Goals as goal

pub returns-in_ok-copied-in-len1-up : goal.returns-in_ok-copied-in-len1-up
returns-in_ok-copied-in-len1-up c =
    let last = c.index-key.result in
    let item : Bytes × Stamped = get_or c.as_slice.result.now (length c.as_slice.result.now - 1) last in
    let same : item.0 ≡ c.in_ok-copied-in-len1-up.field-0 = sym c.in_ok-copied-in-len1-up.ensures in
    let whole = at_the_end c.as_slice.result.now _ last (omega arith) c.index-key.is in
    let long = ap length c.as_slice-2.ensures.pairs in
    (whole.0, last.1, sym c.as_slice.ensures.pairs ∙ whole.1 ∙ ap (λ (k : Bytes). whole.0 ++ ((k, last.1) ∷ [])) (ap (λ (p : Bytes × Stamped). p.0) c.index-key.is ∙ same), omega (arith, c.from.ensures))
