use Rattle.std.proofs.Common.{◌∙◌, Bool, Option, Ok, Err, refl, ap, inr, arith}
use Rattle.mt_rows.specs.Rows.{Bytes}
use Rattle.mt_resp.specs.declared.told.Told.TheVariants as told
use Rattle.mt_resp_commands.specs.Scans.{page_of}
use Rattle.mt_resp_commands.proofs.Pages.{paged_as}
use Rattle.mt_resp_commands.proofs.scans.range.Goals as goal

pub returns-in-Ok-clause-ranged : goal.returns-in-Ok-clause-ranged
returns-in-Ok-clause-ranged g c =
    let asked = c.page_of.ensures ∙ ap (λ (b : Bool). page_of c.args.from b c.args.count) c.is_after.ensures in
    inr (omega arith, omega arith, Ok c.in-Ok.pairs, paged_as g.C.Caller.exchanges _ _ _ _ _ _ _ _ asked c.in-Ok.is c.in_ok-pairs.ensures.page, ap (λ (p : Option Bytes). told.Pairs c.in-Ok.pairs p c.args.stamps) c.in_ok-prefix.ensures)

pub returns-in-Err-clause-ranged : goal.returns-in-Err-clause-ranged
returns-in-Err-clause-ranged g c =
    let asked = c.page_of.ensures ∙ ap (λ (b : Bool). page_of c.args.from b c.args.count) c.is_after.ensures in
    inr (omega arith, omega arith, Err c.in-Err.one, paged_as g.C.Caller.exchanges _ _ _ _ _ _ _ _ asked c.in-Err.is c.in_ok-pairs.ensures.page, refl)
