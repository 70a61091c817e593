use Rattle.mt_scan.proofs.Hopping.{sees_next, last_one}
use Rattle.mt_scan.proofs.laws.a_node_tells_its_next.Goals as goal

pub returns-clause-next : goal.returns-clause-next
returns-clause-next c = λ v k x arena there live border next. sees_next v k x arena there live border next

pub returns-clause-last : goal.returns-clause-last
returns-clause-last c = λ v k arena there border live stable none. last_one v k arena there border live stable none
