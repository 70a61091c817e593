-- The tenants that words `T:Q` name, each with its quota, and the first word that has a fault.
use Rattle.std.specs.Prelude.{◌≡◌, ℕ, List, [], ◌∷◌, ◌++◌, Option, Some, None, slice_get, take}
use Rattle.mt_rows.specs.{declared.refusal.Refusal.Refusal, declared.refusal.Refusal.TheVariants.{TenantThere, Quota, Memory}, Accounts.IsQuota}
use Rattle.mt_options.specs.{declared.tenants.TenantQuota.TenantQuota, declared.tenants.TenantsFault.TenantsFault}
use Rattle.mt_options.specs.{declared.tenants.TenantsFault.TheVariants.{Malformed, Refused}, declared.tenants.WordFault.WordFault, Words.{number_of, parted}}
use Rattle.mt_options.specs.declared.tenants.WordFault.TheVariants as word_faults

-- what follows from a meaning, where there is one
infixl 10 ◌>>=◌
abbrev pub ◌>>=◌ : {A B : Type 0} → Option A → (A → Option B) → Option B
(Some x) >>= f = f x
None >>= f = None

-- the tenant and the quota of a word
unfoldable pub tenant_quota_of : List ℕ → Option TenantQuota
tenant_quota_of word = do
  halves ← parted word
  tenant ← number_of halves.0
  quota ← number_of halves.1
  Some (record { tenant = tenant; quota = quota })

-- the word names this tenant with this quota
abbrev pub NamesTenant : List ℕ → TenantQuota → Type 0
NamesTenant word named = tenant_quota_of word ≡ Some named

-- why the word isn't `T:Q`: it has no colon; what stands before the first one is no number; or else what stands after it is none
abbrev pub HasWordFault : List ℕ → WordFault → Type 0
HasWordFault word word_faults.NoColon = parted word ≡ None
HasWordFault word word_faults.Tenant = (halves : List ℕ × List ℕ) × (parted word ≡ Some halves) × (number_of halves.0 ≡ None)
HasWordFault word word_faults.Quota =
    (halves : List ℕ × List ℕ) × (tenant : ℕ) × (parted word ≡ Some halves) × (number_of halves.0 ≡ Some tenant) × (number_of halves.1 ≡ None)

-- the word names no tenant, and this is why
abbrev pub IsMalformed : List ℕ → WordFault → Type 0
IsMalformed word why = (tenant_quota_of word ≡ None) × HasWordFault word why

-- the tenant is one of these
abbrev pub IsListed : List TenantQuota → ℕ → Type 0
IsListed tenants tenant = (i : ℕ) × (listed : TenantQuota) × (slice_get tenants i ≡ Some listed) × (listed.tenant ≡ tenant)

-- the word names one tenant more, which was not named before, with a quota within the bounds
pub record AddsTenant (before after : List TenantQuota) (word : List ℕ) : Type 0 where
  pub named : TenantQuota
  pub meaning : tenant_quota_of word ≡ Some named
  pub fresh : ¬ IsListed before named.tenant
  pub quota : IsQuota named.quota
  pub grows : after ≡ before ++ named ∷ []

-- why a tenant is refused behind these: it was named before; or else its quota is out of bounds; or else memory is short
abbrev pub IsRefusedBy : List TenantQuota → TenantQuota → Refusal → Type 0
IsRefusedBy before named TenantThere = IsListed before named.tenant
IsRefusedBy before named Quota = (¬ IsListed before named.tenant) × ¬ IsQuota named.quota
IsRefusedBy before named Memory = (¬ IsListed before named.tenant) × IsQuota named.quota
IsRefusedBy before named _ = ⊥

-- the fault is that of the word of this number behind these: it isn't `T:Q`, for this reason, or its tenant is refused
abbrev pub IsFault : List TenantQuota → ℕ → List ℕ → TenantsFault → Type 0
IsFault before at word (Malformed n why) = (n ≡ at) × IsMalformed word why
IsFault before at word (Refused n refusal) = (n ≡ at) × (named : TenantQuota) × (tenant_quota_of word ≡ Some named) × IsRefusedBy before named refusal

-- the words, from the left, name these tenants, none of them twice
pub data AreTenants : List (List ℕ) → List TenantQuota → Type 0 where
  Nothing : AreTenants [] []
  More : {words : List (List ℕ)} {before after : List TenantQuota} (word : List ℕ) → AreTenants words before → AddsTenant before after word → AreTenants (words ++ word ∷ []) after

-- the number of the word that a fault tells of
abbrev pub place_of : TenantsFault → ℕ
place_of (Malformed n why) = n
place_of (Refused n refusal) = n

-- the words before it name tenants, and it has this fault behind them
pub record IsFirstFault (words : List (List ℕ)) (fault : TenantsFault) : Type 0 where
  pub before : List TenantQuota
  pub word : List ℕ
  pub read : AreTenants (take (place_of fault) words) before
  pub there : slice_get words (place_of fault) ≡ Some word
  pub is : IsFault before (place_of fault) word fault
