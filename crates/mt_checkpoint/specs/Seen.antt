-- What a writer knows of the pairs that it was given.
use Rattle.std.specs.{Prelude.{◌≡◌, ℕ, ◌-◌, ◌≤◌, List, length, Option, Some, None}, Option.option_map}
use Rattle.std.specs.{List.{slice_get, AllByRecursion}, declared.cmp.Ordering.TheVariants.Less}
use Rattle.mt_rows.specs.{Rows.Bytes, Tenants.owned_cmp, TenantPairs.{owner_of, AreStampedUpto}, declared.record.TenantPair.TenantPair}
use Rattle.mt_checkpoint.specs.{Checkpoints.{IsPair, Rise}, declared.seen.SeenPairs.SeenPairs}

-- whose the last key is
abbrev pub last_owner : List TenantPair → Option (ℕ × Bytes)
last_owner ps = option_map owner_of (slice_get ps (length ps - 1))

-- a pair is of a later tenant than a key's, or of a later key of the same tenant; any is after none
abbrev pub Follows : Option (ℕ × Bytes) → TenantPair → Type 0
Follows None p = Unit {0}
Follows (Some owner) p = owned_cmp owner (owner_of p) ≡ Less

-- These pairs were given: they have their limits and rise, this is the last one's key, and this is the greatest stamp.
pub record HasSeen (pairs : List TenantPair) (seen : SeenPairs) : Type 0 where
  pub each : AllByRecursion IsPair pairs
  pub rising : Rise pairs
  pub last : seen.last ≡ last_owner pairs
  pub covers : AreStampedUpto seen.greatest pairs
  pub least : (n : ℕ) → AreStampedUpto n pairs → seen.greatest ≤ n
