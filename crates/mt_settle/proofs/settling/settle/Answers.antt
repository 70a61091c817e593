use Rattle.std.proofs.Common.{◌≡◌, ◌∙◌, Err, arith, rules}
use Rattle.mt_settle.proofs.SettleTurns.{one_log, one_log_more, stops}
use Rattle.mt_settle.proofs.settling.settle.Goals as goal

pub loop-log-init : goal.loop-log-init
loop-log-init g c = (one_log g.S.Logs.does _ _ _ c.in_ok-least.ensures.does, c.brought_up.ensures.same)

pub returns-in_err-brought_up-clause-settles : goal.returns-in_err-brought_up-clause-settles
returns-in_err-brought_up-clause-settles g c =
    let is : c.from_residual-in_err-brought_up.result ≡ Err c.in_err-brought_up.field-0.0 = search rules in
    rw is
    (stops g.S.Logs.does _ _ _ _ _ _ _ (omega (arith, c.loop-log-test.true, c.count-count.ensures)) c.loop-log.invariant.0 c.in_err-brought_up.ensures.does)

pub loop-log-preserved : goal.loop-log-preserved
loop-log-preserved g c =
    (rw c.min-least.ensures (one_log_more g.S.Logs.does _ _ _ _ _ _ c.loop-log.invariant.0 c.in_ok-brought_up.ensures.does), c.brought_up-in-loop-log.ensures.same ∙ c.loop-log.invariant.1)
