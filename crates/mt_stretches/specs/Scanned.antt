-- What a scan has done so far, by the maps that its tenant had since its first step.
use Rattle.std.specs.{Prelude.{◌≡◌, ◌<◌, ◌≤◌, ℕ, Bool, true, false, List, length, Some}, Ordering.{nat_cmp, is_lt}, Cmp.Lexicographic.slice_cmp, List.All}
use Rattle.mt_slices.specs.{Keys.{IsStoredKey, tenant_of}, Fences.{least_from, least_through, IsBehindAll}}
use Rattle.mt_rows.specs.{Commands.IsKey, Rows.Bytes, Stamps.Stamped, Maps.{Map, is_walked}, Tenants.tenant_map}
use Rattle.mt_operation.specs.{declared.scan.Stop.Stop, Operations.ScanView}
use Rattle.mt_descent.specs.Pasts.{Past}
use Rattle.mt_walks.specs.Walked.{IsWithin, HasWalked, IsStretch}
use Rattle.mt_readings.specs.Tenancies.{passed_at}
use Rattle.mt_scan.specs.Checks.{AreGreatest}
use Rattle.std.specs.FinMap as pairs
use Rattle.mt_operation.specs.declared.scan.Stop.TheVariants as stops

-- a tenant's map after each step
abbrev pub maps_of : Past → ℕ → ℕ → Map
maps_of past t m = tenant_map t (past.contents m)

-- which of its tenant's keys a scan is done with
abbrev pub passed_by : ScanView → Bytes → Bool
passed_by s key = passed_at (tenant_of s.fence) s.fence s.after key

-- after each step since a first one a tenant's key had some row
abbrev pub Stayed : Past → ℕ → ℕ → Bytes → (ℕ → Stamped) → Type 0
Stayed past first t key row = (m : ℕ) → IsWithin first past.steps m → pairs.get (maps_of past t m) key ≡ Some (row m)

-- A scan that was asked so has walked its tenant's keys up to its fence, and has collected fewer pairs than it was asked for, all of users' keys.
pub record HasScanned (past : Past) (first : ℕ) (from : Bytes) (after : Bool) (count : ℕ) (columns : List ℕ) (s : ScanView) : Type 0 where
  pub stored : IsStoredKey s.fence
  pub walked : HasWalked (maps_of past (tenant_of s.fence)) (IsWithin first past.steps) from after columns (passed_by s) s.collected
  pub behind : (key : Bytes) → passed_by s key ≡ false → is_walked from after key ≡ true
  pub few : length s.collected < count
  pub short : All (λ p. IsKey p.0) s.collected

-- what it has seen is all that a map of its tenant has from its fence on, as far as its keys are reached
abbrev pub IsSeenIn : Map → ScanView → (Bytes → Bool) → Type 0
IsSeenIn m s reached = IsStretch m (passed_by s) reached s.seen

-- up to a fence of its tenant's
pub record IsSeenUpTo (m : Map) (s : ScanView) (fence : Bytes) : Type 0 where
  pub owner : tenant_of fence ≡ tenant_of s.fence
  pub seen : IsSeenIn m s (passed_at (tenant_of s.fence) fence false)

-- and that one lies ahead of its own
pub record IsSeenAhead (m : Map) (s : ScanView) (fence : Bytes) : Type 0 where
  pub upto : IsSeenUpTo m s fence
  pub ahead : is_lt (slice_cmp nat_cmp s.fence fence) ≡ true

-- up to the end of the stretch, in a tree whose keys begin with these bytes: to the fence at the link, at the node's end, or behind the tree; or to the end of
-- the tenant's keys. The fence at the link alone need not lie ahead: the scan may have begun within the link's tree.
abbrev pub IsSeenTo : Map → ScanView → Bytes → Stop → Type 0
IsSeenTo m s prefix (stops.Link slice tree) = IsSeenUpTo m s (least_through prefix slice)
IsSeenTo m s prefix (stops.Next slice) = IsSeenAhead m s (least_from prefix slice)
IsSeenTo m s prefix stops.Tree = ((fence : Bytes) → IsBehindAll prefix fence → IsSeenAhead m s fence) × (AreGreatest prefix → IsSeenIn m s (λ key. true))
IsSeenTo m s prefix stops.Tenant = IsSeenIn m s (λ key. true)

-- so it was after some step since its first one
pub record HasSeen (past : Past) (first : ℕ) (prefix : Bytes) (s : ScanView) : Type 0 where
  pub step : ℕ
  pub since : first ≤ step
  pub made : step ≤ past.steps
  pub seen : IsSeenTo (maps_of past (tenant_of s.fence) step) s prefix s.stop
  pub short : All (λ p. IsKey p.0) s.seen
