use Rattle.mt_service.proofs.SettledNumbers.{covers, session_covers}
use Rattle.mt_service.proofs.laws.a_settled_number_covers_each_answer_that_was_seen.Goals as goal

pub returns-clause-logs : goal.returns-clause-logs
returns-clause-logs g c = λ first log idle legal seen_by. covers g.D.Disk.is_honest g.D.Disk.state g.D.Disk.failures g.D.Disk.was_refused seen_by first log idle legal

pub returns-clause-session : goal.returns-clause-session
returns-clause-session g c = session_covers g.D.Disk.is_honest g.D.Disk.state g.D.Disk.failures g.D.Disk.was_refused
