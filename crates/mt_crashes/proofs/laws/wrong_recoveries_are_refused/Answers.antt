-- Recoveries with wrong numbers, a wrong checkpoint or wrong pairs are none.
use Rattle.std.proofs.{Common.{inr, Some, sym, ◌∙◌, arith}, lemmas.Bool.{true≢false}}
use Rattle.mt_crashes.proofs.{Members.{in_place, place_in}, FrontLaws.{from_cutoff, ends_cutoff}, Recovery.{upto_resume, walked_upto}}
use Rattle.mt_crashes.proofs.Refusals.{not_counted, last_left_out, used_here, base_stays}
use Rattle.mt_crashes.proofs.laws.wrong_recoveries_are_refused.Goals as goal

pub returns-clause-cutoff_past_a_log : goal.returns-clause-cutoff_past_a_log
returns-clause-cutoff_past_a_log c =
    λ k cutoff resume fronts f read used found there past is. omega (arith, past, is.cutoff_is, from_cutoff f fronts (place_in f k fronts there))

pub returns-clause-cutoff_before_all_logs : goal.returns-clause-cutoff_before_all_logs
returns-clause-cutoff_before_all_logs c = λ cutoff resume fronts read used found some before is.
    let f = ends_cutoff fronts some in
    let k = in_place f.0 fronts f.1 in
    omega (arith, before k.0 f.0 k.1, f.2, is.cutoff_is)

pub returns-clause-resume_before_a_log : goal.returns-clause-resume_before_a_log
returns-clause-resume_before_a_log c = λ k cutoff resume fronts f read used found there before is.
    omega (arith, before, is.resume_is, upto_resume f fronts read (place_in f k fronts there))

pub returns-clause-resume_before_a_checkpoint : goal.returns-clause-resume_before_a_checkpoint
returns-clause-resume_before_a_checkpoint c = λ k cutoff resume fronts x read used found there before is.
    omega (arith, before, is.resume_is, walked_upto x fronts read (place_in (Some x) k read there))

pub returns-clause-over_a_void_checkpoint : goal.returns-clause-over_a_void_checkpoint
returns-clause-over_a_void_checkpoint c =
    λ k cutoff resume fronts x read found there void is. true≢false (sym void ∙ (used_here k cutoff resume fronts x read found there is).live)

pub returns-clause-over_a_late_checkpoint : goal.returns-clause-over_a_late_checkpoint
returns-clause-over_a_late_checkpoint c = λ k cutoff resume fronts x read found there late is.
    omega (arith, late, is.cutoff_is, (used_here k cutoff resume fronts x read found there is).whole)

pub returns-clause-over_no_checkpoint : goal.returns-clause-over_no_checkpoint
returns-clause-over_no_checkpoint c = λ k cutoff resume fronts x read found there may is. is.used_is k x there may

pub returns-clause-with_what_does_not_count : goal.returns-clause-with_what_does_not_count
returns-clause-with_what_does_not_count c = not_counted

pub returns-clause-without_the_last_record : goal.returns-clause-without_the_last_record
returns-clause-without_the_last_record c = last_left_out

pub returns-clause-with_a_change_that_its_base_has : goal.returns-clause-with_a_change_that_its_base_has
returns-clause-with_a_change_that_its_base_has c = base_stays

pub returns-clause-without_the_record_at_the_cutoff : goal.returns-clause-without_the_record_at_the_cutoff
returns-clause-without_the_record_at_the_cutoff c = λ r resume fronts read found at some live other is.
    last_left_out r r.stamp resume fronts read found at some (omega arith) live (λ q there same later. inr later) other is
