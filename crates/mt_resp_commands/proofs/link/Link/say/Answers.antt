use Rattle.std.proofs.Common.{sym, subst}
use Rattle.mt_resp_commands.specs.Links.{Asked, ButSettles}
use Rattle.mt_resp_commands.proofs.Asking.{asked_same, asked_open, asked_call, asked_then}
use Rattle.mt_resp_commands.proofs.link.Link.say.Goals.{then-not-self+in_default, else-not-self}
use Rattle.mt_resp_commands.proofs.link.Link.say.Goals as goal

pub returns-in-Err-clause-led : goal.returns-in-Err-clause-led
returns-in-Err-clause-led g c = asked_open g.C.Caller.exchanges _ _ _ _ c.open.ensures

pub returns-in-Ok-clause-led : goal.returns-in-Ok-clause-led
returns-in-Ok-clause-led g c =
    let exchanges = g.C.Caller.exchanges in
    let opened : Asked (ButSettles exchanges) c.args.caller.now c.if-not-self.caller =
    elim c.if-not-self.branch [
      | then-not-self+in_default w ↦ subst (λ x. Asked (ButSettles exchanges) c.args.caller.now x) (sym w.caller-is) (asked_open exchanges _ _ _ _ w.open.ensures)
      | else-not-self w ↦ asked_same exchanges _ _ w.caller-is
    ]
    in
    asked_then exchanges _ _ _ opened (asked_call exchanges _ _ _ _ c.call.ensures)

pub returns-in-Err-Refused-clause-led : goal.returns-in-Err-Refused-clause-led
returns-in-Err-Refused-clause-led g c =
    let exchanges = g.C.Caller.exchanges in
    let opened : Asked (ButSettles exchanges) c.args.caller.now c.if-not-self.caller =
    elim c.if-not-self.branch [
      | then-not-self+in_default w ↦ subst (λ x. Asked (ButSettles exchanges) c.args.caller.now x) (sym w.caller-is) (asked_open exchanges _ _ _ _ w.open.ensures)
      | else-not-self w ↦ asked_same exchanges _ _ w.caller-is
    ]
    in
    asked_then exchanges _ _ _ opened (asked_call exchanges _ _ _ _ c.call.ensures)

pub returns-in-Err-Stuck-clause-led : goal.returns-in-Err-Stuck-clause-led
returns-in-Err-Stuck-clause-led g c =
    let exchanges = g.C.Caller.exchanges in
    let opened : Asked (ButSettles exchanges) c.args.caller.now c.if-not-self.caller =
    elim c.if-not-self.branch [
      | then-not-self+in_default w ↦ subst (λ x. Asked (ButSettles exchanges) c.args.caller.now x) (sym w.caller-is) (asked_open exchanges _ _ _ _ w.open.ensures)
      | else-not-self w ↦ asked_same exchanges _ _ w.caller-is
    ]
    in
    asked_then exchanges _ _ _ opened (asked_call exchanges _ _ _ _ c.call.ensures)
