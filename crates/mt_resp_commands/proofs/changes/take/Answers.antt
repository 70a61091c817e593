use Rattle.mt_resp_commands.proofs.Asking.{asked_then}
use Rattle.mt_resp_commands.proofs.changes.take.Goals as goal

pub returns-in_err-said-in-Replied-Found-clause-led : goal.returns-in_err-said-in-Replied-Found-clause-led
returns-in_err-said-in-Replied-Found-clause-led g c = asked_then g.C.Caller.exchanges _ _ _ c.in_ok-row.ensures.led c.say-in-Replied-Found.ensures.led

pub returns-in_ok-said-in-Replied-Found-clause-led : goal.returns-in_ok-said-in-Replied-Found-clause-led
returns-in_ok-said-in-Replied-Found-clause-led g c = asked_then g.C.Caller.exchanges _ _ _ c.in_ok-row.ensures.led c.say-in-Replied-Found.ensures.led
