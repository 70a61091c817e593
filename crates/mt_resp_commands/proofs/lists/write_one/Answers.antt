use Rattle.mt_resp_commands.proofs.Results.{on_ok}
use Rattle.mt_resp_commands.proofs.lists.write_one.Goals as goal

pub returns-clause-ok : goal.returns-clause-ok
returns-clause-ok g c = on_ok c.write_told.result (λ put. (c.in_ok-one.one, c.in_ok-one.ensures.told, put)) c.write_told.ensures.ok
