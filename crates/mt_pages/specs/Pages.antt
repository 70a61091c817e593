-- A walk over the pairs of tenants, a page after the other.
use Rattle.std.specs.Prelude.{◌≡◌, ℕ, ◌+◌, true, false, List, [], map, Option, Some, None, slice_get}
use Rattle.mt_rows.specs.{Rows.Bytes, Stamps.Stamped, declared.record.TenantPair.TenantPair}
use Rattle.mt_pages.specs.{declared.walk.PageWalk.PageWalk, Scans.pair_of}

-- where the walk goes on: after a full page behind its last key, else at the next tenant's first key
abbrev pub GoesOn : Option (Bytes × Stamped) → PageWalk → PageWalk → Type 0
GoesOn (Some last) old new = (new.place ≡ old.place) × (new.from ≡ last.0) × (new.after ≡ true)
GoesOn None old new = (new.place ≡ old.place + 1) × (new.from ≡ []) × (new.after ≡ false)

-- a page of this tenant was taken
pub record TakesPageOf (tenant : ℕ) (page : List (Bytes × Stamped)) (old new : PageWalk) (pairs : List TenantPair) : Type 0 where
  pub pairs_are : pairs ≡ map (pair_of tenant) page
  pub same : new.tenants ≡ old.tenants
  pub goes_on : GoesOn (slice_get page 63) old new

-- what a walk takes at this tenant; at none it has ended, and takes nothing
abbrev pub TakesAt : Option ℕ → List (Bytes × Stamped) → PageWalk → PageWalk → List TenantPair → Type 0
TakesAt (Some tenant) page old new pairs = TakesPageOf tenant page old new pairs
TakesAt None page old new pairs = (pairs ≡ []) × (new ≡ old)
