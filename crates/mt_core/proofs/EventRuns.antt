-- What stands before the first event of a run, and after one event more: for `run_events`.
use Rattle.std.proofs.Common.{◌≡◌, ℕ, zero, suc, ◌+◌, ◌<◌, [], ◌∷◌, ◌++◌, List, length, take, get_or, Option, Some, None, is_some, refl, sym, ap, subst, ◌∙◌, arith}
use Rattle.std.specs.{List.zip, Ordering.{nat_cmp, is_eq}, Map.lookup, BTreeMap.BTreeMap}
use Rattle.mt_rows.specs.Accounts.{Accounts, account_of}
use Rattle.mt_runs.specs.{declared.event.Event.Event, declared.event.Told.Told, Runs.{Run, story_of}, Placings.no_pairs}
use Rattle.mt_state.specs.{Views.{StateView, quota_in}, Begins.new_state, Histories.{Names, AreNamed, AreHeld, AreById, no_names, History, BringsTo}}
use Rattle.mt_state.proofs.{HistoryStart.history_new, HistoryEvents.keeps_run}
use Rattle.mt_core.{specs.{declared.answers.Ticket.Ticket, Tickets.named}, proofs.EventNames.id_in}
use mathlib.Core.Path.{fun_ext}

no_value : {A : Type 0} {a : A} → ◌≡◌ {A = Option A} None (Some a) → ⊥
no_value e = cc

-- an empty map has no names
unnamed : (names : BTreeMap ℕ (Option Ticket)) → names.entries ≡ [] → named names ≡ no_names
unnamed names none = fun_ext (λ o. ap (λ es. id_in (lookup (λ q. is_eq (nat_cmp o q)) es)) none)

-- no event leads to the state itself
pub leads_first : (v : StateView) (names : BTreeMap ℕ (Option Ticket)) → names.entries ≡ [] → BringsTo no_names v [] (named names) v
leads_first v names none = (unnamed names none, refl)

-- nor are there names by ids
pub by_id_first : (ids : BTreeMap ℕ ℕ) (names : BTreeMap ℕ (Option Ticket)) → names.entries ≡ [] → AreById ids (named names)
by_id_first ids names none o n e = absurd (no_value (sym (ap (λ w. w o) (unnamed names none)) ∙ e))

-- a state in which nothing has happened
abbrev pub IsNew : StateView → Type 0
IsNew v = (logs : ℕ) × (accounts : Accounts) × (v ≡ new_state logs accounts)

history_of : (start : StateView) (new : IsNew start) (run : Run) (names : Names) (v : StateView) → BringsTo no_names start run names v
    → History (λ t. quota_in (account_of new.1 t)) no_pairs (story_of 0 run) names v
history_of start (logs, accounts, is) run names v leads =
    keeps_run run no_names names (new_state logs accounts) v (subst (λ (s : StateView). BringsTo no_names s run names v) is leads) (λ t. quota_in (account_of accounts t)) no_pairs 0 [] (history_new logs accounts)

-- after a run that was told, every operation has a name, and every name its operation
pub named_after : (start : StateView) → IsNew start → (run : Run) (names : Names) (v : StateView) → BringsTo no_names start run names v → AreNamed names v.table
named_after start new run names v leads = (history_of start new run names v leads).all

pub held_after : (start : StateView) → IsNew start → (run : Run) (names : Names) (v : StateView) → BringsTo no_names start run names v → AreHeld names v.table
held_after start new run names v leads o n e = ap is_some ((history_of start new run names v leads).told o n e).1

zip_suc : (es : List Event) (ts : List Told) (i : ℕ) (e : Event) (t : Told) → i < length es → e ≡ get_or es i e → length ts ≡ i
    → zip (take (suc i) es) (ts ++ t ∷ []) ≡ zip (take i es) ts ++ (e, t) ∷ []
zip_suc [] ts i e t lt same is = absurd (omega arith)
zip_suc (x ∷ es) [] zero e t lt same is = ap (λ (w : Event). (w, t) ∷ []) (sym same)
zip_suc (x ∷ es) [] (suc i) e t lt same is = absurd (omega arith)
zip_suc (x ∷ es) (u ∷ ts) zero e t lt same is = absurd (omega arith)
zip_suc (x ∷ es) (u ∷ ts) (suc i) e t lt same is = ap (λ w. (x, u) ∷ w) (zip_suc es ts i e t (omega arith) same (omega arith))

-- one event more of a list, with what it answered
pub zip_more : (es : List Event) (ts : List Told) (i : ℕ) (e : Event) (t : Told) → i < length es → e ≡ get_or es i e → length ts ≡ i
    → zip (take (i + 1) es) (ts ++ t ∷ []) ≡ zip (take i es) ts ++ (e, t) ∷ []
zip_more es ts i e t lt same is =
    subst (λ n. zip (take n es) (ts ++ t ∷ []) ≡ zip (take i es) ts ++ (e, t) ∷ []) {x = suc i} (omega arith) (zip_suc es ts i e t lt same is)
