use Rattle.std.proofs.{Common.{◌≡◌, Result, sym, ap, subst, ◌∙◌, arith, ⊎_elim}, lemmas.Option.same_Some}
use Rattle.mt_runs.specs.Runs.{Finished}
use Rattle.mt_lives.{specs.Lives.{Life, Past, story_in, steps_in}, proofs.Goes.ok_life}
use Rattle.mt_lives.proofs.laws.wrong_notes_are_refused.Goals as goal

pub returns-clause-settled_number_lost : goal.returns-clause-settled_number_lost
returns-clause-settled_number_lost c quotas old new images r lt noted = let kept = noted.0 in omega (arith, kept, lt)

pub returns-clause-settled_number_given_again : goal.returns-clause-settled_number_given_again
returns-clause-settled_number_given_again c quotas old new images r lt noted =
    let kept = noted.0 in
    let over = noted.1 in
    omega (arith, kept, over, lt)

pub returns-clause-settle_before_it_began : goal.returns-clause-settle_before_it_began
returns-clause-settle_before_it_began c quotas old new id begun number is lt noted =
    let same : begun ≡ noted.1 = same_Some begun noted.1 (sym is ∙ noted.3) in
    let least = noted.4 in
    omega (arith, lt, same, least)

pub returns-clause-settle_past_the_last_step : goal.returns-clause-settle_past_the_last_step
returns-clause-settle_past_the_last_step c quotas old new life id number is lt noted =
    let same : steps_in life ≡ steps_in noted.0 = ap (λ (n : Result Life Past). steps_in (ok_life life n)) (sym is ∙ noted.2) in
    let most = noted.5 in
    omega (arith, lt, same, most)

pub returns-clause-own_files_are_bad : goal.returns-clause-own_files_are_bad
returns-clause-own_files_are_bad c quotas old new images log offset noted = ⊎_elim (λ e. absurd cc) (λ e. absurd cc) noted.0

pub returns-clause-own_stamps_fall : goal.returns-clause-own_stamps_fall
returns-clause-own_stamps_fall c quotas old new images log stamp noted = ⊎_elim (λ e. absurd cc) (λ e. absurd cc) noted.0

pub returns-clause-own_pairs_are_too_many : goal.returns-clause-own_pairs_are_too_many
returns-clause-own_pairs_are_too_many c quotas old new images tenant noted = ⊎_elim (λ e. absurd cc) (λ e. absurd cc) noted.0

pub returns-clause-operation_of_no_life : goal.returns-clause-operation_of_no_life
returns-clause-operation_of_no_life c quotas old new life e is noted = noted.0 (life, is)

pub returns-clause-tidying_of_no_life : goal.returns-clause-tidying_of_no_life
returns-clause-tidying_of_no_life c quotas old new life is noted = noted.0 (life, is)

pub returns-clause-answer_of_no_last_step : goal.returns-clause-answer_of_no_last_step
returns-clause-answer_of_no_last_step c quotas old new life op answer is not noted =
    not (subst (λ (l : Life). Finished (story_in l) op answer) (ap (λ (n : Result Life Past). ok_life life n) (sym noted.1 ∙ is)) noted.2)

pub returns-clause-open_settle_of_no_name : goal.returns-clause-open_settle_of_no_name
returns-clause-open_settle_of_no_name c quotas old new life id is none noted = ⊎_elim (λ not. not (life, is)) (λ begun. begun none) noted.0

pub returns-clause-turn_begun_elsewhere : goal.returns-clause-turn_begun_elsewhere
returns-clause-turn_begun_elsewhere c quotas old new life number is other noted =
    other (noted.2 ∙ ap (λ (n : Result Life Past). steps_in (ok_life life n)) (sym noted.1 ∙ is))

pub returns-clause-checkpoint_begun_elsewhere : goal.returns-clause-checkpoint_begun_elsewhere
returns-clause-checkpoint_begun_elsewhere c quotas old new life number is other noted =
    other (noted.5 ∙ ap (λ (n : Result Life Past). steps_in (ok_life life n)) (sym noted.2 ∙ is))

pub returns-clause-checkpoint_ended_elsewhere : goal.returns-clause-checkpoint_ended_elsewhere
returns-clause-checkpoint_ended_elsewhere c quotas old new life number is other noted =
    other (noted.5 ∙ ap (λ (n : Result Life Past). steps_in (ok_life life n)) (sym noted.2 ∙ is))

pub returns-clause-second_turn : goal.returns-clause-second_turn
returns-clause-second_turn c quotas old new number open_one noted = open_one noted.3

pub returns-clause-no_turn_ended : goal.returns-clause-no_turn_ended
returns-clause-no_turn_ended c quotas old new none noted = noted.1 none
