-- No pairs are of no tenant, and pass no quota.
use Rattle.std.proofs.{Common.{◌≡◌, List, None, sym, ap, subst, ◌∙◌, arith}}
use Rattle.std.specs.{FinMap.{get, len, get-empty, len-empty}, Ordering.nat_cmp, Cmp.Lexicographic.slice_cmp}
use Rattle.mt_rows.specs.{declared.record.TenantPair.TenantPair, Stamps.Stamped, Tenants.{owned_cmp, tenant_map}, TenantPairs.pairs_of}
use Rattle.mt_state.proofs.HistoryStart.{tenant_map-empty}
use Rattle.mt_session_tests.proofs.tests.books.state_after.Goals as goal

pub restore-requires-clause-tenants : goal.restore-requires-clause-tenants
restore-requires-clause-tenants c = λ key there.
    absurd (there (subst (λ (ps : List TenantPair). get (pairs_of ps) key ≡ None) (sym c.new.ensures.items) (get-empty owned_cmp key)))

pub restore-requires-clause-quotas : goal.restore-requires-clause-quotas
restore-requires-clause-quotas c = λ t most is.
    let none = subst (λ (ps : List TenantPair). len (tenant_map t (pairs_of ps)) ≡ 0) (sym c.new.ensures.items) (ap len (tenant_map-empty t) ∙ len-empty (slice_cmp nat_cmp) Stamped) in
    omega (arith, none)
