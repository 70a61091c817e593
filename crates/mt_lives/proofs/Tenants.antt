-- A change is of a tenant that has a quota, so every pair is.
use Rattle.std.proofs.Common.{◌≡◌, ◌≢◌, ℕ, ◌+◌, ◌≤◌, Bool, true, false, cond, Option, Some, None, refl, sym, ap, subst, ◌∙◌, arith, inl, inr}
use Rattle.std.proofs.{lemmas.Bool.{cases_eq, le-ltb, ne_eqb, both_ways}, lemmas.Option.same_Some}
use Rattle.std.specs.{Prelude.◌==◌, FinMap.{get, len}}
use Rattle.mt_rows.specs.{Rows.Bytes, Stamps.{Stamped, stamp_in}, declared.command.Command.Command, declared.command.Command.TheVariants.{Get, Put, PutIf, Remove, Scan}}
use Rattle.mt_rows.specs.{declared.reply.Reply.TheVariants.{New, Full, Stale}, declared.tenants.Account.Account}
use Rattle.mt_rows.specs.{Maps.{Map, reply_of, is_change, told_of_row, told_of_put, told_of_remove, map_after}, Accounts.{Accounts, account_of}}
use Rattle.mt_rows.specs.{Tenants.tenant_map, TenantPairs.{quota_in, HasTenants, KeepsQuotas}}
use Rattle.mt_rows.proofs.ContentLaws.{get-tenant_map}
use Rattle.mt_operation.specs.Operations.{OperationView}
use Rattle.mt_state.specs.{Views.{StateView, contents_of, granted, quota_of}, Promises.IsPlacing}
use Rattle.mt_core.specs.Rights.{IsRightState}
use Rattle.mt_state.specs.Views as views

-- what is told of a row is no change
looks_only : (columns : _) (row : Option Stamped) → is_change (told_of_row columns row) ≡ false
looks_only columns None = refl
looks_only columns (Some row) = refl

-- with no pairs and no quota no put makes a change
none_put : (key : Bytes) (m : Map) → ((k : Bytes) → get m k ≡ None) → is_change (told_of_put 0 (len m) (get m key)) ≡ false
none_put key m none =
    ap (λ row. is_change (told_of_put 0 (len m) row)) (none key)
    ∙ ap (λ b. is_change (cond b New Full)) (le-ltb (len m) 0 (omega arith))

-- and no command does
none_made : (command : Command) (m : Map) → ((k : Bytes) → get m k ≡ None) → is_change (reply_of 0 command m) ≡ false
unfolding reply_of
none_made (Get key columns) m none = looks_only columns (get m key)
none_made (Put key change) m none = none_put key m none
none_made (PutIf key stamp change) m none = if_met (stamp_in (get m key) == stamp)
  where
    if_met : (b : Bool) → is_change (cond b (told_of_put 0 (len m) (get m key)) (Stale (stamp_in (get m key)))) ≡ false
    if_met true = none_put key m none
    if_met false = refl
none_made (Remove key) m none = ap (λ row. is_change (told_of_remove row)) (none key)
none_made (Scan from after count columns) m none = refl

-- a tenant without an account has no quota
no_quota : (v : StateView) (t : ℕ) → granted v t ≡ None → quota_of v t ≡ 0
no_quota v t e = by (account_of v.accounts t) e
  where
    by : (a : Option Account) → views.granted_in a ≡ None → views.quota_in a ≡ 0
    by None e = refl
    by (Some a) e = absurd (cc)

-- what is not there, unless something is so
not_there : (row : Option Stamped) (P : Type 0) → (row ≢ None → P) → ¬ P → row ≡ None
not_there None P so none = refl
not_there (Some r) P so none = absurd (none (so (λ e. absurd (cc))))

module _ (accounts : Accounts) (old new : StateView) (before after : OperationView) (p : IsPlacing old new before after)
    (tenants : (t : ℕ) → granted old t ≡ quota_in accounts t) (had : HasTenants (quota_in accounts) (contents_of old)) where
  -- the tenant of a change has a quota
  own_tenant : quota_in accounts before.tenant ≢ None
  own_tenant none =
      let t = before.tenant in
      let empty : (k : Bytes) → get (tenant_map t (contents_of old)) k ≡ None = λ k.
      get-tenant_map t (contents_of old) k
      ∙ not_there (get (contents_of old) (t, k)) (quota_in accounts t ≢ None) (had (t, k)) (λ some. some none) in
      let same : reply_of (quota_of old t) before.command (tenant_map t (contents_of old)) ≡ reply_of 0 before.command (tenant_map t (contents_of old)) =
      ap (λ q. reply_of q before.command (tenant_map t (contents_of old))) (no_quota old t (tenants t ∙ none)) in
      both_ways (is_change p.reply) (ap is_change (p.told ∙ same) ∙ none_made before.command (tenant_map t (contents_of old)) empty) p.changes

  -- another's map is as it was
  other_map : (t : ℕ) → t ≢ before.tenant → tenant_map t (contents_of new) ≡ tenant_map t (contents_of old)
  other_map t other =
      p.makes t
      ∙ ap (λ b. cond b (map_after (quota_of old t) (old.steps + 1) before.command (tenant_map t (contents_of old))) (tenant_map t (contents_of old))) (ne_eqb t before.tenant other)

  pub has_tenants : HasTenants (quota_in accounts) (contents_of new)
  has_tenants key there = elim (cases_eq key.0 before.tenant) [
    | inl same ↦ subst (λ t. quota_in accounts t ≢ None) (sym same) own_tenant
    | inr other ↦ had key (λ none. there (
        sym (get-tenant_map key.0 (contents_of new) key.1)
        ∙ ap (λ (m : Map). get m key.1) (other_map key.0 other)
        ∙ get-tenant_map key.0 (contents_of old) key.1
        ∙ none
        ))
  ]

-- no tenant of a right state has more pairs than its quota
pub keeps_quotas : (accounts : Accounts) (v : StateView) → IsRightState v → ((t : ℕ) → granted v t ≡ quota_in accounts t) → KeepsQuotas (quota_in accounts) (contents_of v)
keeps_quotas accounts v right tenants = λ t most is. by t most (account_of v.accounts t) refl (tenants t ∙ is)
  where
    by : (t most : ℕ) (a : Option Account) → account_of v.accounts t ≡ a → views.granted_in (account_of v.accounts t) ≡ Some most → len (tenant_map t (contents_of v)) ≤ most
    by t most None e is = absurd (cc)
    by t most (Some a) e is =
        let r = right.accounts t a e in
        let quota : a.quota ≡ most = same_Some a.quota most (ap views.granted_in (sym e) ∙ is) in
        omega (arith, r.count, r.quota, quota)
