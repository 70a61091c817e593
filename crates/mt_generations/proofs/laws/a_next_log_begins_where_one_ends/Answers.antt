-- It was begun there.
use Rattle.mt_generations.proofs.Ends.{never_falls, joined_joins}
use Rattle.mt_generations.proofs.laws.a_next_log_begins_where_one_ends.Goals as goal

pub returns-clause-own : goal.returns-clause-own
returns-clause-own c g h start log f stands falls = never_falls g log f stands h start falls

pub returns-clause-joins : goal.returns-clause-joins
returns-clause-joins c = joined_joins
