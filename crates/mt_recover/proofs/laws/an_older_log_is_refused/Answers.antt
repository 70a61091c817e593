-- By what the logs tell.
use Rattle.mt_recover.proofs.OlderLaws.{not_sound, not_sound_before, refused_for_it, copy_is_older, ended_is_older, new_is_older, resumed_twice_are_level, next_is_level}
use Rattle.mt_recover.proofs.laws.an_older_log_is_refused.Goals as goal

pub returns-clause-unsound : goal.returns-clause-unsound
returns-clause-unsound c = not_sound

pub returns-clause-ends_before : goal.returns-clause-ends_before
returns-clause-ends_before c = not_sound_before

pub returns-clause-for_it_alone : goal.returns-clause-for_it_alone
returns-clause-for_it_alone c = refused_for_it

pub returns-clause-copy : goal.returns-clause-copy
returns-clause-copy c = copy_is_older

pub returns-clause-ended : goal.returns-clause-ended
returns-clause-ended c = ended_is_older

pub returns-clause-made_anew : goal.returns-clause-made_anew
returns-clause-made_anew c = new_is_older

pub returns-clause-resumed_twice : goal.returns-clause-resumed_twice
returns-clause-resumed_twice c = resumed_twice_are_level

pub returns-clause-begun_there : goal.returns-clause-begun_there
returns-clause-begun_there c = next_is_level
