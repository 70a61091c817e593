-- Other generations and other chains are not chosen.
use Rattle.std.proofs.Common.{⊎_elim, sym, ◌∙◌, arith}
use Rattle.mt_crashes.proofs.Members.{no_some}
use Rattle.mt_generations.proofs.Deciding.{have_all}
use Rattle.mt_generations.proofs.Refusals.{chosen_last, chosen_here, chosen_batches}
use Rattle.mt_generations.proofs.laws.wrong_choices_are_refused.Goals as goal

pub returns-clause-older_in_vain : goal.returns-clause-older_in_vain
returns-clause-older_in_vain c g h files slots chains last can other chosen = other (chosen_here files slots g h chains last can chosen)

pub returns-clause-older_left_out : goal.returns-clause-older_left_out
returns-clause-older_left_out c g files slots chains d at over none chosen =
    ⊎_elim (λ begin. omega (arith, begin d at, over)) (λ one. none one.0 one.1 one.2 one.3) chosen.1

pub returns-clause-far_back : goal.returns-clause-far_back
returns-clause-far_back c g h files slots chains last far chosen =
    ⊎_elim (λ own. omega (arith, own, far)) (λ next. omega (arith, next, far)) (chosen_last files slots g h chains last chosen)

pub returns-clause-over_the_last : goal.returns-clause-over_the_last
returns-clause-over_the_last c g h files slots chains last over chosen =
    ⊎_elim (λ own. omega (arith, own, over)) (λ next. omega (arith, next, over)) (chosen_last files slots g h chains last chosen)

pub returns-clause-without_a_worker : goal.returns-clause-without_a_worker
returns-clause-without_a_worker c g files slots chains f at none chosen =
    let has = have_all g files chains chosen.0 f at in no_some has.0 (sym none ∙ has.1)

pub returns-clause-without_the_next_log : goal.returns-clause-without_the_next_log
returns-clause-without_the_next_log c g k files slots chains f a b d at_f has_a has_b at_d other chosen =
    other (chosen_batches files g k chains f a b d chosen.0 at_f has_a has_b at_d)
