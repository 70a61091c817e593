-- What all logs told, and to which generation the next turn goes by that.
use Rattle.std.proofs.Common.{◌≡◌, ⊎_elim, inl, inr, Ok, Err, true, false, arith, rules, refl}
use Rattle.mt_settle.proofs.Nexts.{first_told, one_more_told, tells_next}
use Rattle.mt_settle.proofs.next.next_generation.Goals as goal

pub loop-log-init : goal.loop-log-init
loop-log-init g c = first_told g.S.Logs.does _ _ c.in_ok-all.ensures

pub loop-log-preserved : goal.loop-log-preserved
loop-log-preserved g c = one_more_told g.S.Logs.does _ _ _ _ _ c.together-all.ensures.last c.together-all.ensures.older c.in_ok-generations.ensures c.loop-log.invariant

pub returns : goal.returns
returns g c = tells_next g.S.Logs.does _ _ _ _ _ (search (arith, rules)) c.loop-log.invariant c.after.ensures.half c.after.ensures.whole c.after.ensures.err
