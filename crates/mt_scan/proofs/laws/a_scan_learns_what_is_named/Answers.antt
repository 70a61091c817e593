use Rattle.mt_scan.proofs.Learning.{learns_snap, learns_behind, learns_end, learns_changed, learns_hop}
use Rattle.mt_scan.proofs.laws.a_scan_learns_what_is_named.Goals as goal

pub returns-clause-snap : goal.returns-clause-snap
returns-clause-snap c = λ v w x s is arena at_snap h empty snap. learns_snap v w s arena h at_snap empty x is snap

pub returns-clause-behind : goal.returns-clause-behind
returns-clause-behind c = λ v prefix w x s is at_check goes. learns_behind v w at_check prefix s is x goes

pub returns-clause-ends : goal.returns-clause-ends
returns-clause-ends c = learns_end

pub returns-clause-changed : goal.returns-clause-changed
returns-clause-changed c = λ v w now was is at_check. learns_changed v w at_check now was is

pub returns-clause-hop : goal.returns-clause-hop
returns-clause-hop c = λ v w x stop arena at_hop goes. learns_hop v w arena at_hop stop x goes
