-- Accounts with one tenant more, and why a tenant of a servable list is never refused; for `accounts_of`.
use Rattle.std.proofs.Common.{◌≡◌, ◌≢◌, ℕ, ◌+◌, ◌<◌, ◌⊎◌, inl, inr, true, false, List, Option, Some, None, Result, Err, is_ok, slice_get, refl, sym, ap, subst, ◌∙◌, arith}
use Rattle.std.proofs.{lemmas.Option.{same_Some, none-some}, lemmas.Bool.Decides.eqb_tells, Math.Nat.eq-or-lt_of_le}
use Rattle.mt_rows.specs.{declared.tenants.Account.Account, declared.refusal.Refusal.Refusal, declared.refusal.Refusal.TheVariants.{TenantThere, Memory}}
use Rattle.mt_rows.specs.{Refusals.number_of, Accounts.{Accounts, account_of, IsQuota, OthersStay}}
use Rattle.mt_options.specs.declared.tenants.TenantQuota.{TenantQuota}
use Rattle.mt_service.specs.{Accounts.{AreServable, AreAccountsOf, IsAmongFirst}, Faults.{fault_of, IsOfTenants}}

-- an account without pairs
abbrev pub opened : TenantQuota → Account
opened one = record { quota = one.quota; count = 0 }

-- a tenant that could be added had no account
pub had_none : (r : Result (Unit {0}) Refusal) (o : Option Account) → is_ok r ≡ true → (o ≢ None → r ≡ Err TenantThere) → o ≡ None
had_none r None ok h = refl
had_none r (Some account) ok h = absurd (let no : true ≡ false = sym ok ∙ ap is_ok (h (λ e. none-some account (sym e))) in cc)

-- the account of one of the tenants, once one more is added
each_more : (tenants : List TenantQuota) (n i : ℕ) (one other : TenantQuota) (old new : Accounts) → slice_get tenants n ≡ Some one → slice_get tenants i ≡ Some other → account_of old one.tenant ≡ None
    → account_of new one.tenant ≡ Some (opened one) → OthersStay old new one.tenant → AreAccountsOf n tenants old → (i ≡ n) ⊎ (i < n) → account_of new other.tenant ≡ Some (opened other)
each_more tenants n i one other old new there here none added others before (inl e) =
    let same : other ≡ one = same_Some other one (sym here ∙ ap (slice_get tenants) e ∙ there) in
    subst (λ (o : TenantQuota). account_of new o.tenant ≡ Some (opened o)) (sym same) added
each_more tenants n i one other old new there here none added others before (inr less) = elim (eqb_tells other.tenant one.tenant) [
  | inl same ↦ absurd (none-some (opened other) (sym none ∙ ap (account_of old) (sym same.1) ∙ before.each i other less here))
  | inr apart ↦ others other.tenant apart.1 ∙ before.each i other less here
]

-- one of the first so many is one of the first so many and one
later : (n : ℕ) (tenants : List TenantQuota) (t : ℕ) → IsAmongFirst n tenants t → IsAmongFirst (n + 1) tenants t
later n tenants t p = record { place = p.place; one = p.one; before = omega (arith, p.before); there = p.there; is = p.is }

-- who has an account, once one more is added
only_more : (tenants : List TenantQuota) (n : ℕ) (one : TenantQuota) (old new : Accounts) (t : ℕ) (account : Account) → slice_get tenants n ≡ Some one
    → OthersStay old new one.tenant → AreAccountsOf n tenants old → account_of new t ≡ Some account → IsAmongFirst (n + 1) tenants t
only_more tenants n one old new t account there others before has = elim (eqb_tells t one.tenant) [
  | inl same ↦ record { place = n; one = one; before = omega arith; there = there; is = sym same.1 }
  | inr apart ↦ later n tenants t (before.only t account (sym (others t apart.1) ∙ has))
]

-- and that it has no pairs
empty_more : (tenants : List TenantQuota) (n : ℕ) (one : TenantQuota) (old new : Accounts) (t : ℕ) (account : Account)
    → account_of new one.tenant ≡ Some (opened one) → OthersStay old new one.tenant → AreAccountsOf n tenants old → account_of new t ≡ Some account → account.count ≡ 0
empty_more tenants n one old new t account added others before has = elim (eqb_tells t one.tenant) [
  | inl same ↦ ap (λ (a : Account). a.count) (same_Some account (opened one) (sym has ∙ ap (account_of new) same.1 ∙ added))
  | inr apart ↦ before.empty t account (sym (others t apart.1) ∙ has)
]

-- one tenant more
pub one_more : (n : ℕ) (tenants : List TenantQuota) (one : TenantQuota) (old new : Accounts) → slice_get tenants n ≡ Some one → account_of old one.tenant ≡ None
    → account_of new one.tenant ≡ Some (opened one) → OthersStay old new one.tenant → AreAccountsOf n tenants old → AreAccountsOf (n + 1) tenants new
one_more n tenants one old new there none added others before = record {
  each = λ i other less here. each_more tenants n i one other old new there here none added others before (eq-or-lt_of_le (omega (arith, less)));
  only = λ t account has. only_more tenants n one old new t account there others before has;
  empty = λ t account has. empty_more tenants n one old new t account added others before has;
}

-- a tenant of a servable list has no account before its turn
pub has_none : (n : ℕ) (tenants : List TenantQuota) (one : TenantQuota) (old : Accounts) (o : Option Account) → account_of old one.tenant ≡ o → slice_get tenants n ≡ Some one
    → AreServable tenants → AreAccountsOf n tenants old → o ≡ None
has_none n tenants one old None e there servable before = refl
has_none n tenants one old (Some account) e there servable before =
    let p = before.only one.tenant account e in
    let same : p.place ≡ n = servable.once p.place n p.one one p.there there p.is in
    absurd (omega (arith, same, p.before))

-- a refusal that is Memory if the tenants can be served
by_refusal : (tenants : List TenantQuota) (refusal : Refusal) → (AreServable tenants → refusal ≡ Memory) → IsOfTenants tenants (fault_of refusal)
by_refusal tenants Memory h = tt
by_refusal tenants refusal h = λ servable. absurd (omega (arith, ap number_of (h servable)))

-- why one of these tenants is refused: it can't be served after the others
pub at_fault : (n : ℕ) (tenants : List TenantQuota) (one : TenantQuota) (old : Accounts) (refusal : Refusal) → slice_get tenants n ≡ Some one → AreAccountsOf n tenants old
    → (account_of old one.tenant ≡ None → IsQuota one.quota → refusal ≡ Memory) → IsOfTenants tenants (fault_of refusal)
at_fault n tenants one old refusal there before no_other = by_refusal tenants refusal (λ servable. no_other (has_none n tenants one old _ refl there servable before) (servable.quotas n one there))
