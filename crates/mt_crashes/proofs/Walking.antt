-- How a walk goes on: a page more, later steps, later changes, its end.
use Rattle.std.proofs.Common.{◌≡◌, ℕ, ◌<◌, ◌≤◌, Bool, true, not, cond, List, [], ◌∷◌, ◌++◌, map, length, refl, sym, ◌∙◌, ap, subst, arith, Some}
use Rattle.std.proofs.{lemmas.Bool.lt-ltb, lemmas.List.append-nil, lemmas.List.Elements.{All-weaker, filter-append}}
use Rattle.std.specs.{Prelude.{nat_lt, IsSome}, List.{Contains, filter}}
use Rattle.mt_rows.specs.{Rows.Bytes, Maps.Map, Tenants.tenant_map, Stamps.{Stamped, as_shown}}
use Rattle.mt_runs.specs.Scans.{IsLawful}
use Rattle.mt_crashes.specs.{Histories.{Placed, upto, changes_of, map_upto}, Fronts.after_changes, Walks.{Page, IsFromTo, Walks, WalksUpto}}
use Rattle.std.specs.FinMap as pairs

-- a scan that is lawful between some steps is so between more, and by other maps that are the same there
pub lawful_wider : (maps others : ℕ → Map) (B W : ℕ → Type 0) (from : Bytes) (after : Bool) (count : ℕ) (ps : Page) → ((m : ℕ) → B m → W m) → ((m : ℕ) → B m → maps m ≡ others m)
    → IsLawful maps B from after count [] ps → IsLawful others W from after count [] ps
lawful_wider maps others B W from after count ps within same is = record {
  few = is.few;
  rises = is.rises;
  walked = is.walked;
  real = All-weaker
      (λ (p : Bytes × Stamped). (m : ℕ) × B m × ((row : Stamped) × (pairs.get (maps m) p.0 ≡ Some row) × (p.1 ≡ as_shown [] row)))
      (λ (p : Bytes × Stamped). (m : ℕ) × W m × ((row : Stamped) × (pairs.get (others m) p.0 ≡ Some row) × (p.1 ≡ as_shown [] row)))
      (λ p h. (h.0, within h.0 h.1, (h.2.0, ap (λ (x : Map). pairs.get x p.0) (sym (same h.0 h.1)) ∙ h.2.1, h.2.2))) ps is.real;
  whole = λ key walked reached stays. is.whole key walked reached (λ m b. subst (λ (x : Map). IsSome (pairs.get x key)) (sym (same m b)) (stays m (within m b)));
}

pub walks_wider : (maps others : ℕ → Map) (from to later count : ℕ) (start : Bytes) (after : Bool) (pages : List Page) (next : Bytes) (next_after : Bool) → to ≤ later
    → ((m : ℕ) → m ≤ to → maps m ≡ others m) → WalksUpto maps from to count start after pages next next_after → WalksUpto others from later count start after pages next next_after
walks_wider maps others from to later count start after [] next next_after le same w = w
walks_wider maps others from to later count start after (page ∷ pages) next next_after le same w = (
  w.0,
  lawful_wider maps others (IsFromTo from to) (IsFromTo from later) start after count page (λ m b. (b.0, omega (arith, b.1, le))) (λ m b. same m b.1) w.1,
  w.2,
  walks_wider maps others from to later count w.0 true pages next next_after le same w.3,
)

module _ (maps : ℕ → Map) (from to count : ℕ) where
  -- one page more, which shows its last key
  pub walks_more : (start : Bytes) (after : Bool) (pages : List Page) (next : Bytes) (next_after : Bool) (page : Page) (last : Bytes) → WalksUpto maps from to count start after pages next next_after
      → IsLawful maps (IsFromTo from to) next next_after count [] page → Contains (map (λ p. p.0) page) last
      → WalksUpto maps from to count start after (pages ++ page ∷ []) last true
  walks_more start after [] next next_after page last w lawful has =
      let here = subst (λ (k : Bytes). IsLawful maps (IsFromTo from to) k next_after count [] page) w.0 lawful in
      (last, subst (λ (b : Bool). IsLawful maps (IsFromTo from to) start b count [] page) w.1 here, has, (refl, refl))
  walks_more start after (p ∷ pages) next next_after page last w lawful has = (w.0, w.1, w.2, walks_more w.0 true pages next next_after page last w.3 lawful has)

  -- the last page
  pub walks_end : (start : Bytes) (after : Bool) (pages : List Page) (next : Bytes) (next_after : Bool) (page : Page) → WalksUpto maps from to count start after pages next next_after
      → IsLawful maps (IsFromTo from to) next next_after count [] page → length page < count → Walks maps from to count start after (pages ++ page ∷ [])
  walks_end start after [] next next_after page w lawful short =
      let here = subst (λ (k : Bytes). IsLawful maps (IsFromTo from to) k next_after count [] page) w.0 lawful in
      (subst (λ (b : Bool). IsLawful maps (IsFromTo from to) start b count [] page) w.1 here, short)
  walks_end start after (p ∷ []) next next_after page w lawful short = (w.0, w.1, w.2, walks_end w.0 true [] next next_after page w.3 lawful short)
  walks_end start after (p ∷ q ∷ pages) next next_after page w lawful short = (w.0, w.1, w.2, walks_end w.0 true (q ∷ pages) next next_after page w.3 lawful short)

-- and a whole walk stays one
pub walked_wider : (maps others : ℕ → Map) (from to later count : ℕ) (start : Bytes) (after : Bool) (pages : List Page) → to ≤ later → ((m : ℕ) → m ≤ to → maps m ≡ others m)
    → Walks maps from to count start after pages → Walks others from later count start after pages
walked_wider maps others from to later count start after [] le same w = absurd w
walked_wider maps others from to later count start after (page ∷ []) le same w =
    (lawful_wider maps others (IsFromTo from to) (IsFromTo from later) start after count page (λ m b. (b.0, omega (arith, b.1, le))) (λ m b. same m b.1) w.0, w.1)
walked_wider maps others from to later count start after (page ∷ next ∷ pages) le same w = (
  w.0,
  lawful_wider maps others (IsFromTo from to) (IsFromTo from later) start after count page (λ m b. (b.0, omega (arith, b.1, le))) (λ m b. same m b.1) w.1,
  w.2,
  walked_wider maps others from to later count w.0 true (next ∷ pages) le same w.3,
)

-- a later change leaves every map before its number as it was
pub map_before : (m t : ℕ) (history : List Placed) (p : Placed) → m < p.change.stamp → map_upto m history t ≡ map_upto m (history ++ p ∷ []) t
map_before m t history p later =
    let none : filter (λ (q : Placed). not (nat_lt m q.change.stamp)) (p ∷ []) ≡ [] = ap (λ (b : Bool). cond (not b) (p ∷ []) []) (lt-ltb m p.change.stamp later) in
    let same : upto m (history ++ p ∷ []) ≡ upto m history =
    filter-append (λ (q : Placed). not (nat_lt m q.change.stamp)) history (p ∷ []) ∙ ap (λ (l : List Placed). upto m history ++ l) none ∙ append-nil (upto m history) in
    ap (λ (l : List Placed). tenant_map t (after_changes pairs.empty (changes_of l))) (sym same)
