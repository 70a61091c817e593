-- One log after the other comes to stand as something makes it.
use Rattle.std.proofs.Common.{◌≡◌, ℕ, zero, suc, ◌<◌, ◌≤◌, List, [], ◌∷◌, map, length, Some, refl, sym, ap, subst, ◌∙◌, arith, inl, ⊎_elim}
use Rattle.std.proofs.{lemmas.Bool.cases_lt, lemmas.Option.same_Some}
use Rattle.std.specs.Prelude.{slice_get, slice_set}
use Rattle.mt_log.specs.Contents.{Contents}
use Rattle.mt_crashes.{specs.Stores.{Store, LogNow, at_rest, MayLeaveFront, MayLeaveFronts}, proofs.Invariant.{within_place, map_place, zip_left}}
use Rattle.mt_chain_files.proofs.Loops.{get_within, zip_count}
use Rattle.mt_lives.{specs.Holds.LeadsTo, proofs.{Comes.{set_there, stays_here, then_to, to_rest}, Logged.{set_other, set_length}}}

-- ---- lists

-- lists of the same length with the same at each place are the same
pub same_list : {X : Type 0} (xs ys : List X) → length xs ≡ length ys
    → ((k : ℕ) (x y : X) → slice_get xs k ≡ Some x → slice_get ys k ≡ Some y → x ≡ y) → xs ≡ ys
same_list [] [] len each = refl
same_list [] (y ∷ ys) len each = absurd (omega (arith, len))
same_list (x ∷ xs) [] len each = absurd (omega (arith, len))
same_list (x ∷ xs) (y ∷ ys) len each =
    ap (λ z. z ∷ xs) (each 0 x y refl refl)
    ∙ ap (λ zs. y ∷ zs) (same_list xs ys (omega (arith, len)) (λ k a b at_a at_b. each (suc k) a b at_a at_b))

pub map_length : {X Y : Type 0} (f : X → Y) (xs : List X) → length (map f xs) ≡ length xs
map_length f [] = refl
map_length f (x ∷ xs) = ap suc (map_length f xs)

-- logs that rest are those of their fronts
pub resting_logs : (ls : List LogNow) → ((k : ℕ) (l : LogNow) → slice_get ls k ≡ Some l → l ≡ at_rest l.had) → ls ≡ map at_rest (map (λ (l : LogNow). l.had) ls)
resting_logs [] each = refl
resting_logs (l ∷ ls) each =
    ap (λ (x : LogNow). x ∷ ls) (each 0 l refl)
    ∙ ap (λ xs. at_rest l.had ∷ xs) (resting_logs ls (λ k x at. each (suc k) x at))

-- a crash leaves logs that rest as they are
pub rest_leaves : (fronts : List Contents) → MayLeaveFronts (map at_rest fronts) fronts
rest_leaves [] = tt
rest_leaves (f ∷ fronts) = (inl refl, rest_leaves fronts)

-- ---- one after the other

-- a store with these logs
abbrev pub with_logs : List LogNow → Store → Store
with_logs ls s = record s { logs = ls }

module _ (s : Store) (R : ℕ → LogNow → LogNow → Type 0)
    (goes : (ls : List LogNow) (k : ℕ) (was next : LogNow) → slice_get ls k ≡ Some was → R k was next → LeadsTo (with_logs ls s) (with_logs (slice_set ls k next) s)) where
  -- the first so many logs have come to stand so, and those behind them are as they were
  pub record Walked (n : ℕ) (old new : List LogNow) : Type 0 where
    pub leads : LeadsTo (with_logs old s) (with_logs new s)
    pub len : length new ≡ length old
    pub each : (k : ℕ) (was : LogNow) → k < n → slice_get old k ≡ Some was → (next : LogNow) × (slice_get new k ≡ Some next) × R k was next
    pub behind : (k : ℕ) → n ≤ k → slice_get new k ≡ slice_get old k

  walked_more : (n : ℕ) (old mid : List LogNow) (was next : LogNow) → slice_get old n ≡ Some was → R n was next → Walked n old mid
      → Walked (suc n) old (slice_set mid n next)
  walked_more n old mid was next there r w =
      let here : slice_get mid n ≡ Some was = w.behind n (omega arith) ∙ there in
      record {
        leads = then_to (with_logs old s) (with_logs mid s) (with_logs (slice_set mid n next) s) w.leads (goes mid n was next here r);
        len = set_length mid n next ∙ w.len;
        each = λ k x lt at. ⊎_elim
            (λ before.
            let e = w.each k x before at in
            (e.0, set_other mid n k next (λ same. omega (arith, before, same)) ∙ e.1, e.2))
            (λ from.
            let same : k ≡ n = omega (arith, lt, from) in
            let x_is : was ≡ x = same_Some was x (sym there ∙ subst (λ j. slice_get old j ≡ Some x) same at) in (
              next,
              subst (λ j. slice_get (slice_set mid n next) j ≡ Some next) (sym same) (set_there mid n was next here),
              subst (λ j. R j x next) (sym same) (subst (λ y. R n y next) x_is r),
            ))
            (cases_lt k n);
        behind = λ k le. set_other mid n k next (λ same. omega (arith, le, same)) ∙ w.behind k (omega (arith, le));
      }

  pub walk : (n : ℕ) (old : List LogNow) → n ≤ length old
      → ((k : ℕ) (was : LogNow) → k < n → slice_get old k ≡ Some was → (next : LogNow) × R k was next)
      → (new : List LogNow) × Walked n old new
  walk zero old within may = (
    old,
    record { leads = stays_here (with_logs old s) (with_logs old s) refl; len = refl; each = λ k was lt. absurd (omega (arith, lt)); behind = λ k le. refl },
  )
  walk (suc n) old within may =
      let before = walk n old (omega (arith, within)) (λ k was lt there. may k was (omega (arith, lt)) there) in
      let at = within_place old n (omega (arith, within)) in
      let next = may n at.0 (omega arith) at.1 in
      (slice_set before.0 n next.0, walked_more n old before.0 at.0 next.0 at.1 next.1 before.1)

-- ---- all of them come to rest

module _ (s : Store) (fronts : List Contents) (left : MayLeaveFronts s.logs fronts) where
  -- a log rests with the front at its place
  record RestsWith (k : ℕ) (was next : LogNow) : Type 0 where
    front : Contents
    there : slice_get fronts k ≡ Some front
    may : MayLeaveFront was front
    is : next ≡ at_rest front

  goes : (ls : List LogNow) (k : ℕ) (was next : LogNow) → slice_get ls k ≡ Some was → RestsWith k was next → LeadsTo (with_logs ls s) (with_logs (slice_set ls k next) s)
  goes ls k was next there r =
      subst (λ (n : LogNow). LeadsTo (with_logs ls s) (with_logs (slice_set ls k n) s)) (sym r.is) (to_rest k (with_logs ls s) was r.front there r.may)

  may_rest : (k : ℕ) (was : LogNow) → k < length s.logs → slice_get s.logs k ≡ Some was → (next : LogNow) × RestsWith k was next
  may_rest k was lt there =
      let f = zip_left MayLeaveFront s.logs fronts k was left there in
      (at_rest f.0, record { front = f.0; there = f.1; may = f.2; is = refl })

  count : length fronts ≡ length s.logs
  count = zip_count MayLeaveFront s.logs fronts left

  rested : (logs : List LogNow) → Walked s RestsWith goes (length s.logs) s.logs logs → logs ≡ map at_rest fronts
  rested logs w = same_list logs (map at_rest fronts)
      (w.len ∙ sym count ∙ sym (map_length at_rest fronts))
      (λ k x y at_x at_y.
      let below : k < length s.logs = subst (λ n. k < n) w.len (get_within logs k x at_x) in
      let was = within_place s.logs k below in
      let e = w.each k was.0 below was.1 in
      let c = map_place at_rest fronts k y at_y in
      same_Some x e.0 (sym at_x ∙ e.1) ∙ e.2.is ∙ ap at_rest (same_Some e.2.front c.0 (sym e.2.there ∙ c.1)) ∙ sym c.2)

  pub all_rest : LeadsTo s (with_logs (map at_rest fronts) s)
  all_rest =
      let w = walk s RestsWith goes (length s.logs) s.logs (omega arith) may_rest in
      subst (λ ls. LeadsTo s (with_logs ls s)) (rested w.0 w.1) w.1.leads

  pub rested_count : length (map at_rest fronts) ≡ length s.logs
  rested_count = map_length at_rest fronts ∙ count
