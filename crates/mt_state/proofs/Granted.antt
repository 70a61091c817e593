-- A tenant's quota stays where its account does: for whatever cites `KeepsPast`.
use Rattle.std.proofs.{Common.{◌≡◌, ℕ, Option, Some, None, refl}, lemmas.Option.same_Some}
use Rattle.mt_rows.specs.{declared.tenants.Account.Account, Accounts.account_of}
use Rattle.mt_state.specs.Views.{StateView, quota_in, quota_of, granted_in, KeepsPast}

-- of two accounts, if they are there
pub quota_same : (a b : Option Account) → granted_in a ≡ granted_in b → quota_in a ≡ quota_in b
quota_same None None e = refl
quota_same (Some a) (Some b) e = same_Some a.quota b.quota e
quota_same None (Some b) e = absurd (cc)
quota_same (Some a) None e = absurd (cc)

-- and of a tenant
pub quota_stays : (old new : StateView) → KeepsPast old new → (t : ℕ) → quota_of new t ≡ quota_of old t
quota_stays old new g t = quota_same (account_of new.accounts t) (account_of old.accounts t) (g.quotas t)
