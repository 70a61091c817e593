use Rattle.mt_resp_commands.proofs.Asking.{asked_then}
use Rattle.mt_resp_commands.proofs.changes.change_once.Goals as goal

pub returns-in-Replied-Found-clause-led : goal.returns-in-Replied-Found-clause-led
returns-in-Replied-Found-clause-led g c = asked_then g.C.Caller.exchanges _ _ _ c.in_ok-row.ensures.led c.put_edited.ensures.led

pub returns-in-Replied-Absent-clause-led : goal.returns-in-Replied-Absent-clause-led
returns-in-Replied-Absent-clause-led g c = asked_then g.C.Caller.exchanges _ _ _ c.in_ok-row.ensures.led c.put_edited-in-Replied-Absent.ensures.led
