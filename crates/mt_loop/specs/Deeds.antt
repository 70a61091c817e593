-- What happens to a caller that sessions share: each asks it when it has its turn.
use Rattle.std.specs.{Prelude.{◌≡◌, ℕ, List, Option, Some, None}, List.FoldsTo}
use Rattle.mt_caller.specs.Exchanges.{Exchange, Opens, Calls, Settles, CallerRelation}
use Rattle.mt_loop.specs.declared.sharing.Shared.{Shared}

-- exchanges, one after the other, led from a state to another
abbrev pub Asked : {S : Type 0} → CallerRelation S → S → S → Type 0
Asked exchanges old new = (asked : List Exchange) × FoldsTo exchanges old asked new

-- a deed on a caller: an exchange, or none if another session resumes
abbrev pub Does : {S : Type 0} → CallerRelation S → (S → S → Type 0) → S → Option Exchange → S → Type 0
Does exchanges resumes old (Some exchange) new = exchanges old exchange new
Does exchanges resumes old None new = resumes old new

-- deeds, one after the other, led from a state to another
abbrev pub Led : {S : Type 0} → CallerRelation S → (S → S → Type 0) → S → S → Type 0
Led exchanges resumes old new = (deeds : List (Option Exchange)) × FoldsTo (Does exchanges resumes) old deeds new

-- Between two turns of a session its caller was led on by the turns of others. At the end the session's tenant is opened again.
abbrev pub Resumed : {S : Type 0} → CallerRelation S → (S → S → Type 0) → (S → Option ℕ) → S → S → Type 0
Resumed exchanges resumes opened old new = Led exchanges resumes old new × (opened new ≡ opened old)

-- the exchanges but for Settles
abbrev pub ButSettles : {S : Type 0} → CallerRelation S → CallerRelation S
ButSettles exchanges old (Settles told) new = ⊥
ButSettles exchanges old (Opens tenant refusal) new = exchanges old (Opens tenant refusal) new
ButSettles exchanges old (Calls command told) new = exchanges old (Calls command told) new

-- An exchange of a session that shares its caller: what it asked and was answered, and then turns of others. A Settle may be one that was asked for others too,
-- after what the session asked before. At the end the session's tenant is opened again.
abbrev pub SharedExchanges : {S : Type 0} → CallerRelation S → (S → S → Type 0) → (S → Option ℕ) → CallerRelation (Shared S)
SharedExchanges {S = S} exchanges resumes opened old (Settles told) new =
    (from mid : S) × Led exchanges resumes old.caller from × exchanges from (Settles told) mid × Led exchanges resumes mid new.caller × (opened new.caller ≡ opened old.caller)
SharedExchanges {S = S} exchanges resumes opened old (Opens tenant refusal) new =
    (mid : S) × exchanges old.caller (Opens tenant refusal) mid × Resumed exchanges resumes opened mid new.caller
SharedExchanges {S = S} exchanges resumes opened old (Calls command told) new =
    (mid : S) × exchanges old.caller (Calls command told) mid × Resumed exchanges resumes opened mid new.caller
