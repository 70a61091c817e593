use Rattle.mt_resp_commands.proofs.Asking.{asked_open}
use Rattle.mt_resp_commands.proofs.link.Link.select.Goals as goal

pub returns-in-Ok-clause-led : goal.returns-in-Ok-clause-led
returns-in-Ok-clause-led g c = asked_open g.C.Caller.exchanges _ _ _ _ c.open.ensures

pub returns-in-Err-clause-led : goal.returns-in-Err-clause-led
returns-in-Err-clause-led g c = asked_open g.C.Caller.exchanges _ _ _ _ c.open.ensures
