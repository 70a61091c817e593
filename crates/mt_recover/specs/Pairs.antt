-- Pairs as lists: what a checkpoint holds, and what a recovery gives.
use Rattle.std.specs.{Prelude.{◌≡◌, ℕ, List, [], ◌∷◌, map, Option, Some, None, if◌then◌else◌}, List.AllByRecursion, List.Sorted.IsStrictlySortedBy, declared.cmp.Ordering.Ordering}
use Rattle.std.specs.{declared.cmp.Ordering.TheVariants.{Less, Greater}, Ordering.is_eq}
use Rattle.mt_rows.specs.{Rows.Bytes, Stamps.Stamped, Tenants.owned_cmp, TenantPairs.{owner_of, pairs_of}, declared.record.TenantPair.TenantPair}
use Rattle.mt_crashes.specs.Bases.{CheckpointView}
use Rattle.mt_checkpoint.specs.declared.checkpoint.Checkpoint.{Checkpoint}

-- by tenant, and then by key: they rise strictly
abbrev pub Ascend : List TenantPair → Type 0
Ascend ps = IsStrictlySortedBy owned_cmp (map owner_of ps)

-- each of these comes before an owner
abbrev pub AreBefore : ℕ × Bytes → List TenantPair → Type 0
AreBefore owner ps = AllByRecursion (λ p. owned_cmp (owner_of p) owner ≡ Less) ps

-- how the first of these stands to an owner; the end of a list stands behind every owner
abbrev pub first_order : ℕ × Bytes → List TenantPair → Ordering
first_order owner [] = Greater
first_order owner (p ∷ ps) = owned_cmp (owner_of p) owner

-- without the first of these, if it is an owner's
abbrev pub without_first : ℕ × Bytes → List TenantPair → List TenantPair
without_first owner [] = []
without_first owner (p ∷ ps) = if is_eq (owned_cmp (owner_of p) owner) then ps else p ∷ ps

-- the row of the first of these, if it is an owner's
abbrev pub first_row : ℕ × Bytes → List TenantPair → Option Stamped
first_row owner [] = None
first_row owner (p ∷ ps) = if is_eq (owned_cmp (owner_of p) owner) then Some p.row else None

-- the pair that a row makes of an owner
abbrev pub pair_for : ℕ × Bytes → Option Stamped → List TenantPair
pair_for owner None = []
pair_for owner (Some row) = record { tenant = owner.0; key = owner.1; row = row } ∷ []

-- a checkpoint, without where it lies in memory
abbrev pub view_of : Checkpoint → CheckpointView
view_of c = record { from = c.first; to = c.last; pairs = pairs_of c.pairs.items }
