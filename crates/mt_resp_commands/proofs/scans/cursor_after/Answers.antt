use Rattle.std.proofs.Common.{◌≡◌, ◌≢◌, ◌≤◌, ℕ, ◌++◌, ◌∷◌, [], ◌∙◌, refl, sym, ap, subst, length, get_or, ◌-◌, inl, inr, rules, arith}
use Rattle.mt_rows.specs.{Rows.Bytes, Stamps.Stamped}
use Rattle.mt_resp_commands.specs.{Knowing.Keeps, Scans.IsCursor}
use Rattle.mt_resp_commands.proofs.Pages.{at_the_end, if_ok_both}
use Rattle.mt_resp_commands.proofs.scans.cursor_after.Goals as goal

pub returns-in-len1-up : goal.returns-in-len1-up
returns-in-len1-up g c =
    let last = c.index-key.result in
    let item : Bytes × Stamped = get_or c.as_slice.result.now (length c.as_slice.result.now - 1) last in
    let whole = at_the_end c.as_slice.result.now _ last (omega arith) c.index-key.is in
    let long = ap length c.as_slice-2.ensures.pairs in
    let full : c.args.count ≤ length c.args.pairs.now = omega (arith, c.from.ensures) in
    if_ok_both (λ (cursor : ℕ). g.C.Knows.knows c.args.caller.now (Keeps c.args.tenant item.0 cursor)) (λ (cursor : ℕ). cursor ≢ 0) (λ (cursor : ℕ). IsCursor g.C.Knows.knows c.args.tenant c.args.count c.args.pairs.now cursor c.args.caller.now) c.keep.result
    (λ cursor kept some. inr (whole.0, last.0, last.1, full, sym c.as_slice.ensures.pairs ∙ whole.1, subst (λ (p : Bytes × Stamped). g.C.Knows.knows c.args.caller.now (Keeps c.args.tenant p.0 cursor)) (sym c.index-key.is) kept, some)) c.keep.ensures.kept c.keep.ensures.some

pub returns-in_default : goal.returns-in_default
returns-in_default g c = let long = ap length c.as_slice.ensures.pairs in inl (omega arith, refl)
