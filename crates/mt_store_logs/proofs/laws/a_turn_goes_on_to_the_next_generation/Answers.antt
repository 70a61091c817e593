-- By the lemmas for a log whose older log is given up.
use Rattle.mt_store_logs.proofs.NextTurn as turns
use Rattle.mt_store_logs.proofs.laws.a_turn_goes_on_to_the_next_generation.Goals as goal

pub returns-clause-on : goal.returns-clause-on
returns-clause-on g c = turns.turned g.D.Disk.is_honest g.D.Disk.state

pub returns-clause-back : goal.returns-clause-back
returns-clause-back g c = turns.turned_back g.D.Disk.is_honest g.D.Disk.state
