-- The numbers of a list of tenants are those that it lists.
use Rattle.std.proofs.Common.{◌≡◌, ◌<◌, ℕ, zero, suc, List, [], ◌∷◌, None, Some, length, map, slice_get, ap, arith, subst, refl}
use Rattle.std.specs.List.{Contains}
use Rattle.std.proofs.lemmas.Option.{same_Some}
use Rattle.mt_service.specs.Accounts.{AreRising}
use Rattle.mt_options.specs.{declared.tenants.TenantQuota.TenantQuota, Tenants.IsListed}

abbrev numbers : List TenantQuota → List ℕ
numbers tenants = map (λ (one : TenantQuota). one.tenant) tenants

-- the number of a tenant that stands in a list
there : (tenants : List TenantQuota) (i : ℕ) (one : TenantQuota) → slice_get tenants i ≡ Some one → Contains (numbers tenants) one.tenant
there [] i one e = let bad : None ≡ Some one = e in cc
there (x ∷ xs) zero one e = (0, omega arith, ap (λ (t : TenantQuota). t.tenant) (same_Some x one e))
there (x ∷ xs) (suc i) one e =
    let r = there xs i one e in
    (suc r.0, omega (arith, r.1), r.2)

pub listed : (tenants : List TenantQuota) (t : ℕ) → IsListed tenants t → Contains (numbers tenants) t
listed tenants t l = subst (λ n. Contains (numbers tenants) n) l.3 (there tenants l.0 l.1 l.2)

-- the tenant that stands where its number does
pub lists : (tenants : List TenantQuota) (t : ℕ) → Contains (numbers tenants) t → IsListed tenants t
lists [] t c = absurd (omega (arith, c.1))
lists (x ∷ xs) t (zero, lt, at) = (0, x, refl, at)
lists (x ∷ xs) t (suc k, lt, at) =
    let r = lists xs t (k, omega (arith, lt), at) in
    (suc r.0, r.1, r.2, r.3)

-- if there is a tenant, there is a number
pub some_number : (tenants : List TenantQuota) (rising : List ℕ) → AreRising tenants rising → 0 < length tenants → 0 < length rising
some_number [] rising are some = absurd (omega (arith, some))
some_number (x ∷ xs) rising are some =
    let c = are.all x.tenant (0, x, refl, refl) in
    omega (arith, c.1)
