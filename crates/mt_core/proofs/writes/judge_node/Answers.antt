-- The look under the lock, by what the operation comes for.
use Rattle.mt_core.proofs.writes.judge_node.Goals as goal

pub returns-in-Some : goal.returns-in-Some
returns-in-Some c = λ accounts. c.judge_back.ensures c.args.step c.args.tape.now accounts
