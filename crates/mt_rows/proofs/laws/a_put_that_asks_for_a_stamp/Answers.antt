-- a put that asks for a stamp is a put where that stands, and else is told what stands
use Rattle.mt_rows.proofs.CommandLaws.{put_if_met, put_if_put, put_if_stale}
use Rattle.mt_rows.proofs.laws.a_put_that_asks_for_a_stamp.Goals as goal

pub returns-clause-as_a_put : goal.returns-clause-as_a_put
returns-clause-as_a_put c = put_if_put

pub returns-clause-stale : goal.returns-clause-stale
returns-clause-stale c = put_if_stale

pub returns-clause-met : goal.returns-clause-met
returns-clause-met c = put_if_met
