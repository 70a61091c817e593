-- A log that is begun or given up counts by its outer gate.
use Rattle.mt_log_generations.proofs.HeaderLaws.{whole_or_none, left_not_bad, left_told}
use Rattle.mt_log_generations.proofs.laws.what_is_left_is_the_log_or_none.Goals as goal

pub returns-clause-whole : goal.returns-clause-whole
returns-clause-whole c h rest image is left = whole_or_none h rest image is left

pub returns-clause-not_bad : goal.returns-clause-not_bad
returns-clause-not_bad c h rest image number is left bad = left_not_bad h rest image is number left bad

pub returns-clause-told : goal.returns-clause-told
returns-clause-told c h rest image x is left has = left_told h rest image is x left has
