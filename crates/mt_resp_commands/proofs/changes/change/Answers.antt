use Rattle.std.proofs.Common.{◌≡◌, None, refl, inl, inr, rules, arith}
use Rattle.mt_resp_commands.proofs.{Asking.{asked_same, asked_then}, Rounds.late_more}
use Rattle.mt_resp_commands.proofs.changes.change.Goals as goal

pub loop-init : goal.loop-init
loop-init g c = record { late = (refl, refl); led = asked_same g.C.Caller.exchanges _ _ refl }

pub loop-preserved : goal.loop-preserved
loop-preserved g c =
    let was = c.loop.invariant in
    let none : c.in_ok-one.field-0 ≡ None = search rules in
    record {
      late = late_more g.C.Caller.exchanges c.args.key.now c.args.edit.now c.loop.counter _ _ _ _ _ _ c.in_ok-one.field-0 none was.late c.in_ok-one.ensures.tried;
      led = asked_then g.C.Caller.exchanges _ _ _ was.led c.in_ok-one.ensures.led;
    }

pub returns-in_err-one-clause-led : goal.returns-in_err-one-clause-led
returns-in_err-one-clause-led g c = asked_then g.C.Caller.exchanges _ _ _ c.loop.invariant.led c.in_err-one.ensures.led

pub returns-in-Some-clause-changed : goal.returns-in-Some-clause-changed
returns-in-Some-clause-changed g c = (c.loop.counter, c.loop.link, c.loop.caller, c.loop.invariant.late, inl (omega arith, rw c.in-Some.is at c.in_ok-one.ensures.tried))

pub returns-in-Some-clause-led : goal.returns-in-Some-clause-led
returns-in-Some-clause-led g c = asked_then g.C.Caller.exchanges _ _ _ c.loop.invariant.led c.in_ok-one.ensures.led

pub returns-clause-changed : goal.returns-clause-changed
returns-clause-changed g c = (c.loop.counter, c.loop.link, c.loop.caller, c.loop.invariant.late, inr (omega arith, refl, refl, refl))

pub returns-clause-led : goal.returns-clause-led
returns-clause-led g c = c.loop.invariant.led
