use Rattle.mt_arena.proofs.{Elsewhere.stands_once, Owners.{none_elsewhere, none_beside, found}, Homes.begun}
use Rattle.mt_arena.proofs.laws.none_elsewhere.Goals as goal

pub returns-clause-missing : goal.returns-clause-missing
returns-clause-missing c = λ nodes trees key layer k arena in_k. none_elsewhere nodes trees arena (begun nodes trees arena.forest) key layer k in_k

pub returns-clause-other : goal.returns-clause-other
returns-clause-other c = λ nodes trees key layer k i other arena in_k. none_beside nodes trees arena (begun nodes trees arena.forest) key layer k in_k i other

pub returns-clause-found : goal.returns-clause-found
returns-clause-found c = λ nodes trees key layer k i pair arena at. found nodes trees arena (begun nodes trees arena.forest) key layer k i pair at

pub returns-clause-once : goal.returns-clause-once
returns-clause-once c =
    λ nodes trees key layer k i pair low l j other arena. stands_once nodes trees arena (begun nodes trees arena.forest) key layer k i pair low l j other
