-- What a walk has found so far, by the history of its store.
use Rattle.std.specs.{Prelude.{◌≡◌, ◌⊎◌, ℕ, ◌<◌, ◌≤◌, Bool, true, false, List, [], ◌∷◌, ◌++◌, map, take, Option, Some, None, slice_get}, List.AllByRecursion, List.Sorted.IsStrictlySortedBy}
use Rattle.std.specs.{Ordering.{nat_cmp, is_le}, Cmp.Lexicographic.slice_cmp}
use Rattle.mt_rows.specs.{Rows.Bytes, Maps.Map, declared.record.TenantPair.TenantPair}
use Rattle.mt_checkpoint.specs.Checkpoints.{IsPair, IsBefore}
use Rattle.mt_crashes.specs.{Histories.{Placed, map_upto}, Walks.{Page, Walks, WalksUpto, joined}}
use Rattle.mt_pages.specs.{declared.walk.PageWalk.PageWalk, Scans.pair_of}
use Rattle.std.specs.FinMap as pairs

-- a tenant's map after each number
abbrev pub maps_of : List Placed → ℕ → ℕ → Map
maps_of history t m = map_upto m history t

-- numbers that rise strictly
abbrev pub Rise : List ℕ → Type 0
Rise tenants = IsStrictlySortedBy nat_cmp tenants

-- the pairs that pages showed, with their tenant
abbrev pub paged : ℕ → List Page → List TenantPair
paged t pages = map (pair_of t) (joined pages)

-- the pairs of these tenants, one tenant after the other: all pages of each, between two steps
abbrev pub AreWhole : List Placed → ℕ → ℕ → List ℕ → List TenantPair → Type 0
AreWhole history first now [] pairs = pairs ≡ []
AreWhole history first now (t ∷ tenants) pairs =
    (pages : List Page) × (rest : List TenantPair) × Walks (maps_of history t) first now 64 [] false pages × (pairs ≡ paged t pages ++ rest)
    × AreWhole history first now tenants rest

-- the pairs of the tenant at which a walk stands: the pages so far
abbrev pub AreBegun : List Placed → ℕ → ℕ → Option ℕ → Bytes → Bool → List TenantPair → Type 0
AreBegun history first now None from after pairs = pairs ≡ []
AreBegun history first now (Some t) from after pairs =
    (pages : List Page) × WalksUpto (maps_of history t) first now 64 [] false pages from after × (pairs ≡ paged t pages)

-- a pair is before where a walk stands
abbrev pub IsPassed : Option ℕ → Bytes → Bool → TenantPair → Type 0
IsPassed None from after p = Unit {0}
IsPassed (Some t) from after p = (p.tenant < t) ⊎ ((p.tenant ≡ t) × (after ≡ true) × (is_le (slice_cmp nat_cmp p.key from) ≡ true))

-- each pair is before all behind it
abbrev pub Ascend : List TenantPair → Type 0
Ascend [] = Unit {0}
Ascend (p ∷ ps) = AllByRecursion (IsBefore p) ps × Ascend ps

-- a pair has a stamp up to a step
abbrev pub HasStampUpto : ℕ → TenantPair → Type 0
HasStampUpto now p = p.row.stamp ≤ now

-- A walk over these tenants that began after one step has found these pairs up to another. It stands at the tenant of this place, at or after this key. The
-- pairs are those of whole tenants, and then those of that tenant so far.
pub record HasFound (history : List Placed) (first now : ℕ) (tenants : List ℕ) (place : ℕ) (from : Bytes) (after : Bool) (pairs : List TenantPair) : Type 0 where
  pub rise : Rise tenants
  pub made : first ≤ now
  pub whole : List TenantPair
  pub begun : List TenantPair
  pub parts : pairs ≡ whole ++ begun
  pub before : AreWhole history first now (take place tenants) whole
  pub here : AreBegun history first now (slice_get tenants place) from after begun
  pub each : AllByRecursion IsPair pairs
  pub stamps : AllByRecursion (HasStampUpto now) pairs
  pub ascend : Ascend pairs
  pub passed : AllByRecursion (IsPassed (slice_get tenants place) from after) pairs

abbrev pub Finds : List Placed → ℕ → ℕ → PageWalk → List TenantPair → Type 0
Finds history first now walk pairs = HasFound history first now walk.tenants.items walk.place walk.from walk.after pairs

-- later changes leave every map up to a step as it was
abbrev pub KeepsMaps : ℕ → List Placed → List Placed → Type 0
KeepsMaps now old new = (t m : ℕ) → m ≤ now → map_upto m old t ≡ map_upto m new t

-- a tenant that is not among these has no pairs
abbrev pub OthersAreEmpty : List Placed → List ℕ → Type 0
OthersAreEmpty history tenants = (t : ℕ) → ((k : ℕ) → slice_get tenants k ≡ Some t → ⊥) → (m : ℕ) (key : Bytes) → pairs.get (map_upto m history t) key ≡ None
