-- One order explains a history: for the laws.
use Rattle.std.proofs.{Common.{◌≡◌, ℕ, zero, suc, ◌+◌, false, List, [], ◌∷◌, ◌++◌, Option, Some, None, refl, sym, ap, subst, ◌∙◌, arith}, lemmas.List.append-nil}
use Rattle.std.specs.{FinMap.len, Option.option_map}
use Rattle.mt_rows.specs.{Accounts.{Accounts, account_of}, Tenants.tenant_map, TenantPairs.pairs_of, declared.tenants.Account.Account, declared.record.TenantPair.TenantPair}
use Rattle.mt_runs.specs.{Runs.{Run, Story, story_of}, Placings.{Quotas, Maps, no_pairs, HasOneOrder}}
use Rattle.mt_runs.proofs.{Order.one_order, Steps.owner_in, Growth.{no_story, right_start}}
use Rattle.mt_state.specs.{Views.{StateView, op_at, map_of, changed_at, quota_in, quota_of}, Begins.new_state}
use Rattle.mt_state.proofs.{HistoryMaps.map_of-now, HistoryStart.{content-new, tenant_map-empty}}
use Rattle.mt_core.specs.{Rights.IsRightState, Restores.{IsIdle, IsRestored, counting}}
use Rattle.mt_history.specs.Legal.{Along}
use Rattle.mt_book.{specs.{Happens.{Happening, Happens, Leads}, OneRun.{Through, AreTold}}, proofs.OneRuns.one_run}
use Rattle.mt_orders.specs.{Stories.{Ids, no_ids, ids_after, ids_from, event_of, events_from, maps_in}, Explained.{HappensAt, Stands, IsExplained, HaveOneOrder}}
use Rattle.mt_orders.proofs.{Past.Remembers, Steps.made_right, Longer.{followed_by, followed_by-append}, Happenings.{happening_goes, happening_told}}
use mathlib.Core.Path.{fun_ext}

no_value : {A : Type 0} {a : A} → ◌≡◌ {A = Option A} None (Some a) → ⊥
no_value e = cc

-- a run from a place on: one order explains the whole story, and whatever is true of a place from there on stands in it
record Comes (quotas : Quotas) (first : Maps) (base : ℕ) (place : ℕ) (ids : Ids) (v : StateView) (log : List StateView) (run : List Happening) (whole : Run) : Type 0 where
  pub order : HasOneOrder quotas first (story_of base whole)
  pub stand : (k n : ℕ) (what : Happening) → n ≡ place + k → HappensAt v log k what → Stands (story_of base whole) n (ids_from place ids run k) what

-- at the first place, or at a later one
stand_at : (story : Story) (place : ℕ) (ids : Ids) (v t : StateView) (log : List StateView) (h : Happening) (run : List Happening)
    → ((what : Happening) → Happens v what t → Stands story place ids what)
    → ((k n : ℕ) (what : Happening) → n ≡ suc place + k → HappensAt t log k what → Stands story n (ids_from (suc place) (ids_after place ids h) run k) what)
    → (k n : ℕ) (what : Happening) → n ≡ place + k → HappensAt v (t ∷ log) k what → Stands story n (ids_from place ids (h ∷ run) k) what
stand_at story place ids v t log h run here later zero n what is d =
    let same : place ≡ n = omega (arith, is) in
    subst (λ m. Stands story m ids what) same (here what d)
stand_at story place ids v t log h run here later (suc k) n what is d = later k n what (omega (arith, is)) d

comes : (quotas : Quotas) (first : Maps) (base : ℕ) (log : List StateView) (run : List Happening) (before : Run) (place : ℕ) (ids : Ids) (v : StateView)
    → Remembers quotas first (story_of base before) place ids v → Along Leads v log → Through v log run
    → Comes quotas first base place ids v log run (before ++ events_from place ids log run)
comes quotas first base [] [] before place ids v h legal through =
    subst (Comes quotas first base place ids v [] []) (sym (append-nil before)) (record {
      order = one_order quotas first (story_of base before) h.map_at h.changed h.right;
      stand = λ k n what is d. absurd d;
    })
comes quotas first base (t ∷ log) (what ∷ run) before place ids v h legal through =
    let w = happening_goes quotas first base before place ids v t h legal.0.right what through.0 in
    let event = event_of place ids t what in
    let next = ids_after place ids what in
    let later = events_from (suc place) next log run in
    let rest = comes quotas first base log run (followed_by before event) (suc place) next t w.now legal.1 through.1 in
    subst (Comes quotas first base place ids v (t ∷ log) (what ∷ run)) (followed_by-append before event later) (record {
      order = rest.order;
      stand = stand_at (story_of base (followed_by before event ++ later)) place ids v t log what run
          (λ told d. happening_told quotas first base before place ids v t h legal.0.right event next w later told d) rest.stand;
    })
comes quotas first base [] (what ∷ run) before place ids v h legal through = absurd through
comes quotas first base (t ∷ log) [] before place ids v h legal through = absurd through

-- before anything has happened to a state without operations
remembers_start : (s : StateView) → IsIdle s → IsRightState s → Remembers (quota_of s) (maps_in s) (story_of s.steps []) 0 no_ids s
remembers_start s idle right = record {
  map_at = map_of s;
  changed = changed_at s;
  right = right_start (quota_of s) (maps_in s) s.steps (map_of s) (changed_at s) (λ t. map_of-now s t s.steps (made_right s right));
  maps = λ t m from. refl;
  changes = λ m from. refl;
  quota = λ t. refl;
  count = omega arith;
  known = λ n op at. absurd (no_value (sym (idle n) ∙ at));
  apart = λ n m name e f. absurd (no_value e);
  given = λ n name e. absurd (no_value e);
  free = λ name le. refl;
  owners = λ m name own. let inside = owner_in (no_story s.steps) m name own in absurd (omega (arith, inside.0, inside.1));
}

-- a legal history
pub explained : (s : StateView) (log : List StateView) (run : List Happening) → IsIdle s → Along Leads s log → Through s log run → IsExplained s log run
explained s [] [] idle legal through = record {
  headline = one_order (quota_of s) (maps_in s) (no_story s.steps) (λ t m. maps_in s t) (λ m. false)
      (right_start (quota_of s) (maps_in s) s.steps (λ t m. maps_in s t) (λ m. false) (λ t. refl));
  stand = λ place what d. absurd d;
}
explained s [] (what ∷ run) idle legal through = absurd through
explained s (t ∷ log) run idle legal through =
    let w = comes (quota_of s) (maps_in s) s.steps (t ∷ log) run [] 0 no_ids s (remembers_start s idle legal.0.right) legal through in
    record { headline = w.order; stand = λ place what d. w.stand place place what (omega arith) d }

-- what was told of it
pub told_explained : (told : ℕ → Option Happening) (s : StateView) (log : List StateView) → IsIdle s → Along Leads s log → AreTold told s log → HaveOneOrder told s log
told_explained told s log idle legal all =
    let one = one_run told s log legal all in
    record { all = one; explained = explained s log one.run idle legal one.through }

-- there is no pair in a new state
new_maps : (logs : ℕ) (accounts : Accounts) → maps_in (new_state logs accounts) ≡ no_pairs
new_maps logs accounts = fun_ext (λ t. ap (tenant_map t) content-new ∙ tenant_map-empty t)

-- of a new state
pub new_explained : (logs : ℕ) (accounts : Accounts) (log : List StateView) (run : List Happening) → Along Leads (new_state logs accounts) log
    → Through (new_state logs accounts) log run → HasOneOrder (λ t. quota_in (account_of accounts t)) no_pairs (story_of 0 (events_from 0 no_ids log run))
new_explained logs accounts log run legal through =
    subst (λ (first : Maps). HasOneOrder (λ t. quota_in (account_of accounts t)) first (story_of 0 (events_from 0 no_ids log run)))
    (new_maps logs accounts) (explained (new_state logs accounts) log run (λ n. refl) legal through).headline

-- an account that counts other pairs has the same quota
count_quota : (count : ℕ) (account : Option Account) → quota_in (option_map (counting count) account) ≡ quota_in account
count_quota count None = refl
count_quota count (Some account) = refl

-- of a state that was restored
pub restored_explained : (steps logs : ℕ) (accounts : Accounts) (ps : List TenantPair) (v : StateView) (log : List StateView) (run : List Happening)
    → IsRestored steps logs accounts ps v → Along Leads v log → Through v log run
    → HasOneOrder (λ t. quota_in (account_of accounts t)) (λ t. tenant_map t (pairs_of ps)) (story_of steps (events_from 0 no_ids log run))
restored_explained steps logs accounts ps v log run is legal through =
    let quotas : quota_of v ≡ (λ t. quota_in (account_of accounts t)) =
    fun_ext (λ t. ap quota_in (is.accounts_are t) ∙ count_quota (len (tenant_map t (pairs_of ps))) (account_of accounts t)) in
    let maps : maps_in v ≡ (λ t. tenant_map t (pairs_of ps)) = fun_ext (λ t. ap (tenant_map t) is.contents_are) in
    let events = events_from 0 no_ids log run in
    subst (λ (q : Quotas). HasOneOrder q (λ t. tenant_map t (pairs_of ps)) (story_of steps events)) quotas
    (subst (λ (m : Maps). HasOneOrder (quota_of v) m (story_of steps events)) maps
    (subst (λ n. HasOneOrder (quota_of v) (maps_in v) (story_of n events)) is.steps_are
    (explained v log run (λ n. ap (λ table. op_at table n) is.table_is) legal through).headline))
