-- No turn is made, and the newest checkpoint is settled.
use Rattle.std.proofs.Common.{IsTrue, sym, subst}
use Rattle.mt_lives.specs.{declared.live_slots.LiveSlots.LiveSlots, Parts.{AreSettledBy, AreFree}}
use Rattle.mt_lives.proofs.checks.are_free.Goals as goal

pub returns-in-Rest : goal.returns-in-Rest
returns-in-Rest c =
    subst (λ (ss : LiveSlots). (IsTrue c.are_settled.result → AreFree c.args.logs.now ss) × (AreFree c.args.logs.now ss → IsTrue c.are_settled.result)) (sym c.in-Rest.is)
    (subst (λ n. (IsTrue c.are_settled.result → AreSettledBy n c.args.logs.now) × (AreSettledBy n c.args.logs.now → IsTrue c.are_settled.result)) c.owed.ensures c.are_settled.ensures)
