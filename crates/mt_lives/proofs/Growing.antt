-- What an event of an operation makes of a store: nothing, a step more, or a step that placed a change.
use Rattle.std.proofs.Common.{◌≡◌, ℕ, ◌+◌, ◌<◌, ◌≤◌, true, not, cond, List, [], ◌∷◌, ◌++◌, length, refl, sym, ap, subst, ◌∙◌, arith, inl, inr, ⊎_elim}
use Rattle.std.proofs.{lemmas.Bool.{cases_lt, lt-ltb}, lemmas.List.append-nil, lemmas.List.Elements.filter-append}
use Rattle.std.specs.Prelude.{nat_lt}
use Rattle.mt_rows.specs.{Accounts.Accounts, Tenants.Contents, TenantPairs.{quota_in, HasTenants, KeepsQuotas}, declared.record.Batch.Batch}
use Rattle.mt_crashes.specs.{Histories.{Placed, upto, changes_of, pairs_upto}, Stores.{Store, StepsOn, Places}}
use Rattle.mt_crashes.proofs.Walking.{map_before}
use Rattle.mt_pages.specs.Walked.{KeepsMaps}
use Rattle.mt_lives.{specs.Holds.{LeadsTo, HoldsChanges, KeepsAll}, proofs.{Comes.{stays_here, one_more}, Tapes.holds_more}}
use Rattle.std.specs.FinMap as pairs

-- a store that has grown: its logs are as they were, and a batch holds the changes that it held
pub record Grows (old new : Store) : Type 0 where
  pub leads : LeadsTo old new
  pub logs : new.logs ≡ old.logs
  pub slots : new.slots ≡ old.slots
  pub voids : new.voids ≡ old.voids
  pub reached : new.reached ≡ old.reached
  pub serving : new.serving ≡ old.serving
  pub steps : old.steps ≤ new.steps
  pub holds : (worker : ℕ) (b : Batch) → HoldsChanges old worker b → HoldsChanges new worker b
  pub maps : KeepsMaps old.steps old.history new.history

pub grows_not : (s : Store) → Grows s s
grows_not s = record { leads = stays_here s s refl; logs = refl; slots = refl; voids = refl; reached = refl; serving = refl; steps = omega arith; holds = λ worker b h. h; maps = λ t m le. refl }

-- a step that placed nothing
abbrev pub stepped : Store → Store
stepped s = record s { steps = s.steps + 1 }

pub grows_step : (s : Store) → s.serving ≡ true → Grows s (stepped s)
grows_step s serves = record {
  leads =
      let step : StepsOn s (stepped s) = record { serves = serves; stands = refl } in
      one_more s s (stepped s) (stays_here s s refl) (inl step);
  logs = refl;
  slots = refl;
  voids = refl;
  reached = refl;
  serving = refl;
  steps = omega arith;
  holds = λ worker b h. record { made = omega (arith, h.made); records = h.records };
  maps = λ t m le. refl;
}

-- one that placed a change
abbrev pub placing : Placed → Store → Store
placing p s = record s { steps = s.steps + 1; history = s.history ++ p ∷ []; placed = s.placed ++ p ∷ [] }

pub grows_placing : (s : Store) (p : Placed) → s.serving ≡ true → p.change.stamp ≡ s.steps + 1 → p.worker < length s.logs → Grows s (placing p s)
grows_placing s p serves number worker = record {
  leads =
      let place : Places s (placing p s) = record { serves = serves; p = p; number = number; worker = worker; stands = refl } in
      one_more s s (placing p s) (stays_here s s refl) (inr (inl place));
  logs = refl;
  slots = refl;
  voids = refl;
  reached = refl;
  serving = refl;
  steps = omega arith;
  holds = λ w b h. record { made = omega (arith, h.made); records = h.records ∙ sym (holds_more w b s.history p (omega (arith, h.made, number))) };
  maps = λ t m le. map_before m t s.history p (omega (arith, le, number));
}

-- ---- quotas

-- the pairs up to a step before a change are as they were
pub before_change : (m : ℕ) (history : List Placed) (p : Placed) → m < p.change.stamp → pairs_upto m (history ++ p ∷ []) ≡ pairs_upto m history
before_change m history p lt =
    ap (λ ps. Rattle.mt_crashes.specs.Fronts.after_changes pairs.empty (changes_of ps)) (
    filter-append (λ (q : Placed). not (nat_lt m q.change.stamp)) history (p ∷ [])
    ∙ ap (λ b. upto m history ++ cond (not b) (p ∷ []) []) (lt-ltb m p.change.stamp lt)
    ∙ append-nil (upto m history)
    )

-- every map keeps the quotas where the last one does
pub keeps_placing : (accounts : Accounts) (s : Store) (p : Placed) (now : Contents) → KeepsAll accounts s → p.change.stamp ≡ s.steps + 1
    → ((m : ℕ) → s.steps + 1 ≤ m → pairs_upto m (placing p s).history ≡ now)
    → HasTenants (quota_in accounts) now × KeepsQuotas (quota_in accounts) now → KeepsAll accounts (placing p s)
keeps_placing accounts s p now all number last here = λ m. ⊎_elim
    (λ lt. subst (λ (c : Contents). HasTenants (quota_in accounts) c × KeepsQuotas (quota_in accounts) c) (sym (before_change m s.history p (omega (arith, lt, number)))) (all m))
    (λ ge. subst (λ (c : Contents). HasTenants (quota_in accounts) c × KeepsQuotas (quota_in accounts) c) (sym (last m (omega (arith, ge)))) here)
    (cases_lt m (s.steps + 1))
