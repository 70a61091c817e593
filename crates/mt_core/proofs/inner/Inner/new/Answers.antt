-- That a new state keeps the invariant, for `Inner::new`.
use Rattle.std.proofs.Common.{sym, subst}
use Rattle.mt_state.specs.Begins.{HaveNoPairs}
use Rattle.mt_core.proofs.Starts.{start_state}
use Rattle.mt_core.proofs.inner.Inner.new.Goals as goal

pub invariant_of-result : goal.invariant_of-result
invariant_of-result c =
    let none = subst HaveNoPairs (sym c.tenants.view_is) c.requires.empty in
    start_state c.args.logs _ _ c.in_ok-new.field-0 c.new-2.result c.new-3.result c.requires.logs none c.in_ok-all_given.ensures c.in_ok-new.ensures c.new-2.ensures c.new-3.ensures
