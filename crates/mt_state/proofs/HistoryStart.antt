-- Before any event nothing was begun, and the history of no event is right: for `told_runs_have_one_order`.
use Rattle.std.proofs.{Common.{◌≡◌, ℕ, ◌≤◌, [], Option, Some, None, sym, refl, ap, subst, ◌∙◌, arith}, lemmas.List.Elements.All-nil}
use Rattle.std.specs.{FinMap.get-empty, Ordering.nat_cmp, Cmp.Lexicographic.slice_cmp}
use Rattle.mt_rows.{specs.{Accounts.{Accounts, account_of}, Tenants.{owned_cmp, tenant_map}}, proofs.{CommandLaws.same_rows, ContentLaws.get-tenant_map}}
use Rattle.mt_arena.specs.{Arena.content_of, Accesses.new_arena}
use Rattle.mt_runs.{specs.{Runs.story_of, Placings.{Maps, no_pairs}}, proofs.{Steps.owner_in, Growth.{no_story, right_start}}}
use Rattle.mt_state.specs.{Views.{StateView, contents_of, op_at, map_of, changed_at, quota_in, quota_of}, Begins.new_state, Histories.{no_names, History}}
use Rattle.mt_state.proofs.HistoryMaps.{AreMade, map_of-now}
use Rattle.std.specs.FinMap as pairs
use Rattle.mt_arena.specs.Contents as contents

no_value : {A : Type 0} {a : A} → ◌≡◌ {A = Option A} None (Some a) → ⊥
no_value e = cc

-- a state without operations, of which no change is told, is one in which nothing has happened since its last step
pub history_start : (v : StateView) (first : Maps) → ((n : ℕ) → op_at v.table n ≡ None) → v.tape.entries ≡ []
    → ((t : ℕ) → tenant_map t (contents_of v) ≡ first t) → History (quota_of v) first (no_story v.steps) no_names v
history_start v first none quiet begun =
    let made = subst (λ es. AreMade es v.steps) (sym quiet) (All-nil (λ e. e.step ≤ v.steps)) in
    record {
      right = right_start (quota_of v) first v.steps (map_of v) (changed_at v) (λ t. map_of-now v t v.steps made ∙ begun t);
      quota = λ t. refl;
      count = omega arith;
      made = made;
      told = λ o n e. absurd (no_value e);
      apart = λ o p n e f. absurd (no_value e);
      all = λ n op at. absurd (no_value (sym (none n) ∙ at));
      free = λ o e. refl;
      owners = λ m o own. let inside = owner_in (no_story v.steps) m o own in absurd (omega arith);
    }

-- there is no pair in a new arena
pub content-new : content_of new_arena ≡ pairs.empty
unfolding contents.content
content-new = refl

-- a tenant has no pairs where there are none
pub tenant_map-empty : (t : ℕ) → tenant_map t pairs.empty ≡ no_pairs t
tenant_map-empty t = same_rows _ _ (λ k. get-tenant_map t pairs.empty k ∙ get-empty owned_cmp (t, k) ∙ sym (get-empty (slice_cmp nat_cmp) k))

-- a new state
pub history_new : (logs : ℕ) (accounts : Accounts) → History (λ t. quota_in (account_of accounts t)) no_pairs (story_of 0 []) no_names (new_state logs accounts)
history_new logs accounts = history_start (new_state logs accounts) no_pairs (λ n. refl) refl (λ t. ap (tenant_map t) content-new ∙ tenant_map-empty t)
