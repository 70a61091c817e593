-- When a state and logs are no store, and why they are one.
use Rattle.std.proofs.Common.{true≢false, sym, ◌∙◌, subst, arith}
use Rattle.mt_store_logs.specs.Places.{AreInOrder}
use Rattle.mt_stored.proofs.stores.Store.joined.Goals as goal

pub returns-then-from-len-clause-when : goal.returns-then-from-len-clause-when
returns-then-from-len-clause-when g c =
    (λ never. absurd (true≢false (sym never)), λ both. absurd (let same = both.0 in omega (arith, same, c.logs.ensures, c.from.ensures, c.len.ensures, c.if-from-len.true)))

pub returns-then-not-are_in_order-clause-when : goal.returns-then-not-are_in_order-clause-when
returns-then-not-are_in_order-clause-when g c = (
  λ never. absurd (true≢false (sym never)),
  λ both. absurd (true≢false (sym (c.are_in_order.ensures.1 (subst AreInOrder (sym c.deref.ensures.value) both.1)) ∙ c.if-not-are_in_order.true)),
)

pub invariant_of-result-clause-order : goal.invariant_of-result-clause-order
invariant_of-result-clause-order g c = subst AreInOrder c.deref.ensures.value (c.are_in_order.ensures.0 c.if-not-are_in_order.false)
