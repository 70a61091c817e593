-- Which operation has made no step, for `is_still`.
use Rattle.std.proofs.{Common.{sym, ◌∙◌}, lemmas.Bool.eqb-true}
use Rattle.mt_core.proofs.begins.is_still.Goals as goal

pub returns-in-Some-clause-yes : goal.returns-in-Some-clause-yes
returns-in-Some-clause-yes c = λ yes. (c.in-Some.operation.now, sym c.in-Some.ensures, sym c.first.ensures ∙ eqb-true c.first.result 0 yes)
