-- The log was opened again, and then it was flushed and goes to the generation, or it was not.
use Rattle.std.proofs.{Common.{inr}, lemmas.Result.{IfOk-weaker, IfErr-weaker}}
use Rattle.mt_stored.proofs.beginning.bring_up_and_begin.Goals as goal

pub returns-in-Ok-clause-ok : goal.returns-in-Ok-clause-ok
returns-in-Ok-clause-ok g c =
    IfOk-weaker c.flush_or_begin.result _ _ (λ flushed begins. record { mid = c.reopen.new.self; opens = c.in-Ok.ensures.ok; begins = begins }) c.flush_or_begin.ensures.ok

pub returns-in-Ok-clause-err : goal.returns-in-Ok-clause-err
returns-in-Ok-clause-err g c =
    IfErr-weaker c.flush_or_begin.result _ _ (λ e fails. inr (record { mid = c.reopen.new.self; opens = c.in-Ok.ensures.ok; fails = fails })) c.flush_or_begin.ensures.err
