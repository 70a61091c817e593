-- How scans that ran beside changes make a base: the pages of a tenant, from its first key on.
use Rattle.std.specs.{Prelude.{◌≡◌, ℕ, ◌<◌, ◌≤◌, Bool, true, false, List, [], ◌∷◌, map, length}, List.{Contains, flat_map}}
use Rattle.mt_rows.specs.{Rows.Bytes, Maps.Map, Tenants.{Contents as Pairs, tenant_map}, Stamps.Stamped}
use Rattle.mt_runs.specs.Scans.{IsLawful}
use Rattle.mt_crashes.specs.Histories.{Placed, map_upto}
use Rattle.std.specs.FinMap as pairs

-- what one scan showed
abbrev pub Page : Type 0
Page = List (Bytes × Stamped)

-- from one step to another
abbrev pub IsFromTo : ℕ → ℕ → ℕ → Type 0
IsFromTo from to m = (from ≤ m) × (m ≤ to)

-- Pages of scans of all columns, each lawful by a tenant's maps from one step to another, up to `count` pairs a page: the first from a
-- key on or after it, each later one after a key of the one before it. All are full but the last.
abbrev pub Walks : (ℕ → Map) → ℕ → ℕ → ℕ → Bytes → Bool → List Page → Type 0
Walks maps from to count start after [] = ⊥
Walks maps from to count start after (page ∷ []) = IsLawful maps (IsFromTo from to) start after count [] page × (length page < count)
Walks maps from to count start after (page ∷ next ∷ pages) =
    (last : Bytes) × IsLawful maps (IsFromTo from to) start after count [] page × Contains (map (λ p. p.0) page) last
    × Walks maps from to count last true (next ∷ pages)

-- Pages so far, and from which key on or after which the next scan goes.
abbrev pub WalksUpto : (ℕ → Map) → ℕ → ℕ → ℕ → Bytes → Bool → List Page → Bytes → Bool → Type 0
WalksUpto maps from to count start after [] next next_after = (next ≡ start) × (next_after ≡ after)
WalksUpto maps from to count start after (page ∷ pages) next next_after =
    (last : Bytes) × IsLawful maps (IsFromTo from to) start after count [] page × Contains (map (λ p. p.0) page) last
    × WalksUpto maps from to count last true pages next next_after

-- pages one behind the other
abbrev pub joined : List Page → Page
joined pages = flat_map (λ page. page) pages

-- every tenant's part of some pairs is what its pages showed
abbrev pub AreWalked : ℕ → ℕ → ℕ → List Placed → Pairs → Type 0
AreWalked from to count history base =
    (t : ℕ) → (pages : List Page) × Walks (λ m. map_upto m history t) from to count [] false pages
    × (tenant_map t base ≡ pairs.from_entries (joined pages))
