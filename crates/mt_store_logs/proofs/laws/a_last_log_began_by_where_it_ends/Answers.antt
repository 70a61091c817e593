-- By the lemma for the last log.
use Rattle.mt_store_logs.proofs.LastStarts.{began_by}
use Rattle.mt_store_logs.proofs.laws.a_last_log_began_by_where_it_ends.Goals as goal

pub returns : goal.returns
returns g c = began_by g.D.Disk.is_honest g.D.Disk.state
