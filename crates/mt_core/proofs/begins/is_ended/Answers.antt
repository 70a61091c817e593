-- Which operation has no step left, for `is_ended`.
use Rattle.std.proofs.Common.{◌≡◌, Bool, true, false, not, refl, sym, ◌∙◌}
use Rattle.mt_core.proofs.begins.is_ended.Goals as goal

not_true : (b : Bool) → not b ≡ true → b ≡ false
not_true false e = refl
not_true true e = absurd (cc)

pub returns-in-Some-clause-yes : goal.returns-in-Some-clause-yes
returns-in-Some-clause-yes c = λ yes. (c.in-Some.operation.now, sym c.in-Some.ensures, sym c.is_unfinished.ensures ∙ not_true c.is_unfinished.result yes)
