-- Recoveries with wrong numbers, a wrong checkpoint or wrong pairs are none.
use Rattle.std.proofs.Common.{⊎_elim, [], ◌∷◌, Some, refl, sym, ◌∙◌, arith}
use Rattle.std.proofs.lemmas.Bool.{true≢false}
use Rattle.mt_crashes.specs.Recoveries.{resume_of}
use Rattle.mt_crashes.proofs.{Members.{place_in}, FrontLaws.from_cutoff, Recovery.{upto_resume, walked_upto}}
use Rattle.mt_crashes.proofs.Refusals.{not_counted, last_left_out, base_stays}
use Rattle.mt_generations.proofs.Refusals.{used_over, used_latest, over_nothing, over_this, as_walked, last_made, some_end}
use Rattle.mt_generations.proofs.laws.wrong_recoveries_from_chains_are_refused.Goals as goal

pub returns-clause-cutoff_past_a_chain : goal.returns-clause-cutoff_past_a_chain
returns-clause-cutoff_past_a_chain c cutoff resume chains d read used found at past is =
    omega (arith, past, is.cutoff_is, from_cutoff d chains at)

pub returns-clause-cutoff_before_all_chains : goal.returns-clause-cutoff_before_all_chains
returns-clause-cutoff_before_all_chains c cutoff resume chains read used found some before is =
    let d = some_end chains some in omega (arith, before d.0 d.1, d.2, is.cutoff_is)

pub returns-clause-resume_before_a_chain : goal.returns-clause-resume_before_a_chain
returns-clause-resume_before_a_chain c cutoff resume chains d read used found at before is =
    omega (arith, before, is.resume_is, upto_resume d chains read at)

pub returns-clause-resume_before_a_checkpoint : goal.returns-clause-resume_before_a_checkpoint
returns-clause-resume_before_a_checkpoint c k cutoff resume chains x read used found there before is =
    omega (arith, before, is.resume_is, walked_upto x chains read (place_in (Some x) k read there))

pub returns-clause-over_an_early_checkpoint : goal.returns-clause-over_an_early_checkpoint
returns-clause-over_an_early_checkpoint c k cutoff resume chains d x read found there at early is =
    omega (arith, early, ((used_over k cutoff resume chains x read found there is).covers d at).0)

pub returns-clause-over_equal_numbers : goal.returns-clause-over_equal_numbers
returns-clause-over_equal_numbers c k cutoff resume chains d x read found there at over equal is =
    ⊎_elim (λ none. omega (arith, none, over)) (λ walked. omega (arith, walked, equal)) ((used_over k cutoff resume chains x read found there is).covers d at).1

pub returns-clause-over_a_void_checkpoint : goal.returns-clause-over_a_void_checkpoint
returns-clause-over_a_void_checkpoint c k cutoff resume chains x read found there void is =
    true≢false (sym void ∙ (used_over k cutoff resume chains x read found there is).may.live)

pub returns-clause-over_a_late_checkpoint : goal.returns-clause-over_a_late_checkpoint
returns-clause-over_a_late_checkpoint c k cutoff resume chains x read found there late is =
    omega (arith, late, is.cutoff_is, (used_over k cutoff resume chains x read found there is).may.whole)

pub returns-clause-over_an_older_checkpoint : goal.returns-clause-over_an_older_checkpoint
returns-clause-over_an_older_checkpoint c j k cutoff resume chains x d read found there other may older is =
    ⊎_elim (λ before. omega (arith, before, older)) (λ same. omega (arith, same.0, older)) (used_latest j k cutoff resume chains x d read found there other may is)

pub returns-clause-over_no_checkpoint : goal.returns-clause-over_no_checkpoint
returns-clause-over_no_checkpoint c k cutoff resume chains x read found there may is = is.used_is.1 k x there may

pub returns-clause-over_nothing : goal.returns-clause-over_nothing
returns-clause-over_nothing c cutoff resume chains d read found at over is = omega (arith, is.used_is.0 d at, over)

pub returns-clause-with_what_does_not_count : goal.returns-clause-with_what_does_not_count
returns-clause-with_what_does_not_count c key cutoff resume chains read found none other is =
    not_counted key cutoff (resume_of chains []) chains [] found none other (over_nothing chains read cutoff resume found is)

pub returns-clause-without_the_last_record : goal.returns-clause-without_the_last_record
returns-clause-without_the_last_record c r cutoff resume chains read found at some upto live last other is =
    last_left_out r cutoff (resume_of chains []) chains [] found at some upto live last other (over_nothing chains read cutoff resume found is)

pub returns-clause-beside_its_base : goal.returns-clause-beside_its_base
returns-clause-beside_its_base c k cutoff resume key chains x read found there none other is =
    other (as_walked k cutoff resume chains x read found there is key none)

pub returns-clause-with_a_change_that_its_base_has : goal.returns-clause-with_a_change_that_its_base_has
returns-clause-with_a_change_that_its_base_has c k cutoff resume key row chains x read found there has upto other is =
    base_stays 0 cutoff (resume_of chains (Some x ∷ [])) key row chains x (Some x ∷ []) found refl has upto other
    (over_this k cutoff resume chains x read found there is)

pub returns-clause-without_the_last_record_over_its_base : goal.returns-clause-without_the_last_record_over_its_base
returns-clause-without_the_last_record_over_its_base c r k cutoff resume chains x read found there at over upto live low last other is =
    let stands = last_made k cutoff resume chains x read found there is r at over upto live low last in other stands.0 stands.1
