use Rattle.mt_arena.proofs.{Owners.{published, stored, replaced, dropped}, Halves.halved, Homes.begun}
use Rattle.mt_arena.proofs.laws.contents_by_slot.Goals as goal

pub returns-clause-publish : goal.returns-clause-publish
returns-clause-publish c = λ nodes trees key layer k y e pair arena in_k. published nodes trees arena (begun nodes trees arena.forest) key layer k in_k y e pair

pub returns-clause-split : goal.returns-clause-split
returns-clause-split c =
    λ nodes trees key layer k j x y left right separator e pair arena in_k half. halved nodes trees arena (begun nodes trees arena.forest) key layer k j in_k half x y left right separator e pair

pub returns-clause-store : goal.returns-clause-store
returns-clause-store c =
    λ nodes trees key layer k i pair y row stamp arena at. stored nodes trees arena (begun nodes trees arena.forest) key layer k i pair at y row stamp

pub returns-clause-replace : goal.returns-clause-replace
returns-clause-replace c =
    λ nodes trees key layer k i pair y e new arena at. replaced nodes trees arena (begun nodes trees arena.forest) key layer k i pair at y e new

pub returns-clause-drop : goal.returns-clause-drop
returns-clause-drop c = λ nodes trees key layer k i pair y arena at. dropped nodes trees arena (begun nodes trees arena.forest) key layer k i pair at y
