use Rattle.std.proofs.Common.{rules, subst, sym}
use Rattle.mt_resp.specs.declared.asked.Asked.{Asked}
use Rattle.mt_resp_commands.specs.Answers.{AskedFor}
use Rattle.mt_resp_commands.proofs.Asking.{asked_settle}
use Rattle.mt_resp_commands.proofs.answers.tell.Goals as goal

pub returns-in-Sum-clause-told : goal.returns-in-Sum-clause-told
returns-in-Sum-clause-told g c = let told = rw c.into_vec.ensures at c.sum_of.ensures.sum in search rules

pub returns-in-All-clause-told : goal.returns-in-All-clause-told
returns-in-All-clause-told g c = let told = rw c.into_vec-in-All.ensures at c.all_of.ensures.all in search rules

pub returns-in-Settle-clause-led : goal.returns-in-Settle-clause-led
returns-in-Settle-clause-led g c =
    subst (λ (x : Asked). AskedFor g.C.Caller.exchanges x c.args.caller.now c.settle.new.self) (sym c.in-Settle.is)
    (asked_settle g.C.Caller.exchanges c.args.caller.now c.settle.new.self c.settle.result c.settle.ensures)
