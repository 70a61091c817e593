-- By the lemmas for callers.
use Rattle.mt_store_logs.proofs.CallerLemmas.{resumes, fails_to_resume}
use Rattle.mt_store_logs.proofs.laws.a_resume_batch_comes_to_rest.Goals as goal

pub returns-clause-resumed : goal.returns-clause-resumed
returns-clause-resumed g c = resumes g.D.Disk.is_honest g.D.Disk.state g.D.Disk.failures

pub returns-clause-failed : goal.returns-clause-failed
returns-clause-failed g c = fails_to_resume g.D.Disk.is_honest g.D.Disk.state g.D.Disk.failures
