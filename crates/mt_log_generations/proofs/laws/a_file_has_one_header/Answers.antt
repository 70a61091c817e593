-- A header is told by its bytes.
use Rattle.mt_log_generations.proofs.HeaderLaws.{one, is_a_log, not_bad, told, begun, closed_is_none}
use Rattle.mt_log_generations.proofs.laws.a_file_has_one_header.Goals as goal

pub returns-clause-one : goal.returns-clause-one
returns-clause-one c h k image log other = one h k image log other

pub returns-clause-a_log : goal.returns-clause-a_log
returns-clause-a_log c h image log none = is_a_log h image log none

pub returns-clause-not_bad : goal.returns-clause-not_bad
returns-clause-not_bad c h image number log bad = not_bad h image number log bad

pub returns-clause-told : goal.returns-clause-told
returns-clause-told c h image x log has = told h image x log has

pub returns-clause-begun : goal.returns-clause-begun
returns-clause-begun c h is = begun h is

pub returns-clause-closed : goal.returns-clause-closed
returns-clause-closed c image closed = closed_is_none image closed
