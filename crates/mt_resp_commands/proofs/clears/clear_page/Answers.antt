use Rattle.std.proofs.Common.{◌≡◌, false, Option, refl, inl, inr, rules, subst}
use Rattle.mt_rows.specs.Rows.{Bytes}
use Rattle.mt_resp_commands.specs.Clears.{IsLastKey, is_number}
use Rattle.mt_resp_commands.proofs.{Asking.asked_then, Pages.{paged_as, cleared_as}}
use Rattle.mt_resp_commands.proofs.clears.clear_page.Goals as goal

pub returns-in-Err-clause-cleared : goal.returns-in-Err-clause-cleared
returns-in-Err-clause-cleared g c = inl (paged_as g.C.Caller.exchanges _ _ _ _ _ _ _ _ c.page_after.ensures c.in-Err.is c.in_ok-pairs.ensures.page)

pub returns-in_err-other-clause-led : goal.returns-in_err-other-clause-led
returns-in_err-other-clause-led g c = asked_then g.C.Caller.exchanges _ _ _ c.page.ensures.led c.sum_of.ensures.led

pub returns-in-Some-clause-cleared : goal.returns-in-Some-clause-cleared
returns-in-Some-clause-cleared g c = (
  c.in-Ok.pairs,
  cleared_as g.C.Caller.exchanges _ _ c.in-Ok.pairs _ c.args.last c.args.count _ _ _ _ _ _ _ _ c.page_after.ensures c.in-Ok.is c.in_ok-removes.ensures c.in-Number.is c.in_ok-pairs.ensures.page c.in_ok-other.ensures.sum,
  subst (λ (x : Option Bytes). IsLastKey c.in-Ok.pairs x) c.in-Some.is c.in_ok-last.ensures,
)

pub returns-in-Some-clause-led : goal.returns-in-Some-clause-led
returns-in-Some-clause-led g c = asked_then g.C.Caller.exchanges _ _ _ c.page.ensures.led c.sum_of.ensures.led

pub returns-in-Number-clause-cleared : goal.returns-in-Number-clause-cleared
returns-in-Number-clause-cleared g c =
    inr (
      c.in-Ok.pairs,
      cleared_as g.C.Caller.exchanges _ _ c.in-Ok.pairs _ c.args.last c.args.count _ _ _ _ _ _ _ _ c.page_after.ensures c.in-Ok.is c.in_ok-removes.ensures c.in-Number.is c.in_ok-pairs.ensures.page c.in_ok-other.ensures.sum,
      inl (subst (λ (x : Option Bytes). IsLastKey c.in-Ok.pairs x) c.in-None.is c.in_ok-last.ensures),
    )

pub returns-in-Number-clause-led : goal.returns-in-Number-clause-led
returns-in-Number-clause-led g c = asked_then g.C.Caller.exchanges _ _ _ c.page.ensures.led c.sum_of.ensures.led

pub returns : goal.returns
returns g c =
    let none : is_number c.in_ok-other.other ≡ false = search rules in
    record {
      cleared =
          inr (
            c.in-Ok.pairs,
            cleared_as g.C.Caller.exchanges _ _ c.in-Ok.pairs _ c.args.last c.args.count c.in_ok-other.other c.in_ok-other.other _ _ _ _ _ _ c.page_after.ensures c.in-Ok.is c.in_ok-removes.ensures refl c.in_ok-pairs.ensures.page c.in_ok-other.ensures.sum,
            inr none,
          );
      led = asked_then g.C.Caller.exchanges _ _ _ c.page.ensures.led c.sum_of.ensures.led;
    }
