use Rattle.mt_loop.proofs.Deeds.{session_resumed}
use Rattle.mt_loop.proofs.sharing.sessions_share_a_caller.Goals as goal

pub returns : goal.returns
returns g c = session_resumed g.C.Caller.exchanges g.C.Sharing.resumes g.C.Sharing.opened
