-- The tenants that a server is to serve, and their accounts.
use Rattle.std.specs.{Prelude.{◌≡◌, ℕ, ◌<◌, List, Some, slice_get}, List.{Contains, Sorted.IsStrictlyIncreasing}}
use Rattle.mt_rows.specs.{declared.tenants.Account.Account, Accounts.{Accounts, account_of, IsQuota}}
use Rattle.mt_options.specs.{declared.tenants.TenantQuota.TenantQuota, Tenants.IsListed}

-- each tenant stands in the list once, with a quota that may be given
pub record AreServable (tenants : List TenantQuota) : Type 0 where
  pub once : (i j : ℕ) (one other : TenantQuota) → slice_get tenants i ≡ Some one → slice_get tenants j ≡ Some other → one.tenant ≡ other.tenant → i ≡ j
  pub quotas : (i : ℕ) (one : TenantQuota) → slice_get tenants i ≡ Some one → IsQuota one.quota

-- the tenant is one of the first n
pub record IsAmongFirst (n : ℕ) (tenants : List TenantQuota) (tenant : ℕ) : Type 0 where
  pub place : ℕ
  pub one : TenantQuota
  pub before : place < n
  pub there : slice_get tenants place ≡ Some one
  pub is : one.tenant ≡ tenant

-- each of the first n tenants has an account of its quota, and nobody else has one; no account has pairs
pub record AreAccountsOf (n : ℕ) (tenants : List TenantQuota) (accounts : Accounts) : Type 0 where
  pub each : (i : ℕ) (one : TenantQuota) → i < n → slice_get tenants i ≡ Some one → account_of accounts one.tenant ≡ Some (record { quota = one.quota; count = 0 })
  pub only : (t : ℕ) (account : Account) → account_of accounts t ≡ Some account → IsAmongFirst n tenants t
  pub empty : (t : ℕ) (account : Account) → account_of accounts t ≡ Some account → account.count ≡ 0

-- the numbers of the tenants, which rise
pub record AreRising (tenants : List TenantQuota) (numbers : List ℕ) : Type 0 where
  pub rise : IsStrictlyIncreasing numbers
  pub all : (t : ℕ) → IsListed tenants t → Contains numbers t
  pub only : (t : ℕ) → Contains numbers t → IsListed tenants t
