-- Nothing was given up, so nothing at all is a base.
use Rattle.std.proofs.Common.{None}
use Rattle.mt_recover.proofs.{OlderLemmas.{level_whole, whole_level}, BaseUses.{no_set_alone, recovers_whole}}
use Rattle.mt_recover.proofs.laws.whole_logs_are_refused_as_ever.Goals as goal

pub returns-clause-level : goal.returns-clause-level
returns-clause-level c = level_whole

pub returns-clause-over : goal.returns-clause-over
returns-clause-over c = whole_level

pub returns-clause-no_set : goal.returns-clause-no_set
returns-clause-no_set c fronts read quota begin why = no_set_alone fronts read quota begin why

pub returns-clause-recovers : goal.returns-clause-recovers
returns-clause-recovers c fronts read found begin r = recovers_whole fronts read (λ t. None) begin found r
