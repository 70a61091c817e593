use Rattle.std.proofs.Common.{suc, refl}
use Rattle.mt_resp_commands.proofs.{Asking.{asked_same, asked_then}, Clearing.{page_more, pages_end}}
use Rattle.mt_resp_commands.proofs.clears.clear.Goals as goal

pub loop-init : goal.loop-init
loop-init g c = record { pages = (0, (refl, refl, refl, refl)); led = asked_same g.C.Caller.exchanges _ _ refl }

pub loop-preserved : goal.loop-preserved
loop-preserved g c =
    let was = c.loop.invariant in
    record {
      pages = (suc was.pages.0, page_more g.C.Caller.exchanges was.pages.0 c.loop.count c.in-Ok.removed c.loop.last c.in-Ok.key _ _ _ _ _ _ was.pages.1 (rw c.in-Ok.is at c.in_ok-key.ensures.cleared));
      led = asked_then g.C.Caller.exchanges _ _ _ was.led c.in_ok-key.ensures.led;
    }

pub returns-in_err-key-clause-led : goal.returns-in_err-key-clause-led
returns-in_err-key-clause-led g c = asked_then g.C.Caller.exchanges _ _ _ c.loop.invariant.led c.in_err-key.ensures.led

pub returns-in-Err-clause-cleared : goal.returns-in-Err-clause-cleared
returns-in-Err-clause-cleared g c =
    let was = c.loop.invariant.pages in
    rw c.cleared_told.ensures
    (pages_end g.C.Caller.exchanges was.0 c.loop.count c.args.counted c.loop.last c.in-Err.total _ _ _ _ _ _ was.1 (rw c.in-Err.is at c.in_ok-key.ensures.cleared))

pub returns-in-Err-clause-led : goal.returns-in-Err-clause-led
returns-in-Err-clause-led g c = asked_then g.C.Caller.exchanges _ _ _ c.loop.invariant.led c.in_ok-key.ensures.led

pub returns-clause-led : goal.returns-clause-led
returns-clause-led g c = c.loop.invariant.led
