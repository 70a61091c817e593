-- A period adds one state to the history, which ends with it, and begins with a state of which nothing was asked: for `Kept`.
use Rattle.std.proofs.Common.{◌≡◌, ℕ, List, [], ◌∷◌, ◌++◌, refl, sym, ap, subst}
use Rattle.mt_state.specs.{Views.{StateView, op_at}, Begins.new_state}
use Rattle.mt_rows.specs.{Accounts.Accounts, declared.record.TenantPair.TenantPair}
use Rattle.mt_core.specs.{Rights.IsRightState, Restores.IsRestored}
use Rattle.mt_history.{specs.Legal.{EndsWith, MayFollow}, proofs.Fronts.{may_follow, ends_more}}
use Rattle.mt_book.specs.{Happens.{Happening, Happens, Leads}, Keeping.{BeginsUnasked, IsUnasked}}

-- what happened to the last state leads to one that may follow
pub leads_on : (tip : List StateView) (old now state : StateView) → EndsWith tip old → IsRightState old → (what : Happening) → Happens old what state → now ≡ state
    → MayFollow Leads tip now
leads_on tip old now state ends right what happens is =
    subst (λ (w : StateView). MayFollow Leads tip w) (sym is) (may_follow Leads tip old state ends (record { right = right; what = what; happens = happens }))

-- and the history then ends with that
pub ends_now : (tip new : List StateView) (now state : StateView) → new ≡ tip ++ now ∷ [] → now ≡ state → EndsWith new state
ends_now tip new now state adds is =
    subst (λ (l : List StateView). EndsWith l state) (sym adds) (subst (λ (w : StateView). EndsWith (tip ++ w ∷ []) state) (sym is) (ends_more tip state))

-- it begins as it did
pub begins_now : (tip new : List StateView) (now : StateView) → new ≡ tip ++ now ∷ [] → BeginsUnasked tip → BeginsUnasked new
begins_now [] new now adds begins = absurd begins
begins_now (s ∷ log) new now adds begins = subst BeginsUnasked (sym adds) begins

-- nothing was asked of a state that is new or was restored
pub unasked_new : (logs : ℕ) (accounts : Accounts) → IsUnasked (new_state logs accounts)
unasked_new logs accounts = record { untaken = refl; idle = λ o. refl }

pub unasked_restored : (steps logs : ℕ) (accounts : Accounts) (ps : List TenantPair) (v : StateView) → IsRestored steps logs accounts ps v → IsUnasked v
unasked_restored steps logs accounts ps v is = record { untaken = is.answers_are; idle = λ o. ap (λ table. op_at table o) is.table_is }
