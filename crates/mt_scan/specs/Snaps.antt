-- What Snap reads of a border node, and how the stretch ends that it reads.
use Rattle.std.specs.{Prelude.{◌≡◌, ◌≢◌, ℕ, ◌+◌, ◌*◌, ◌≤◌, Bool, List, Option, Some, None}, List.Contains}
use Rattle.mt_slices.specs.Keys.{tenant_of}
use Rattle.mt_rows.specs.Rows.{Bytes}
use Rattle.mt_border.specs.{Held.Pair, declared.entry.Entry.Entry}
use Rattle.mt_interior.specs.Fences.{end_of}
use Rattle.mt_arena.specs.{NodeView.NodeView, NodeFacts.IsUnstable, Forests.tree_at, Arena.ArenaView, Accesses.at}
use Rattle.mt_operation.specs.{declared.phase.Phase.TheVariants.Check, declared.walk.Walk.Walk, declared.scan.Stop.Stop, Operations.ScanView}
use Rattle.mt_readings.specs.{Reading.{is_behind, read, stop}, Tenancies.own_pairs}
use Rattle.mt_border.specs.Held as helds
use Rattle.mt_operation.specs.declared.scan.Stop.TheVariants as stops

-- which entries of a layer a scan is done with
abbrev pub behind_in : ScanView → ℕ → Entry → Bool
behind_in s layer = is_behind s.fence s.after layer

-- what a scan reads of a node: the pairs from its fence on up to the first link; and that link
abbrev pub read_in : NodeView → ScanView → ℕ → List (Entry × Pair)
read_in n s layer = read (behind_in s layer) n.slots

abbrev pub link_in : NodeView → ScanView → ℕ → Option Entry
link_in n s layer = stop (behind_in s layer) n.slots

-- an unstable slot is among those that are read, by the work of this operation, which holds the node
pub record IsBlockedAmong (n : NodeView) (s : ScanView) (layer holder : ℕ) : Type 0 where
  pub x : Entry × Pair
  pub among : Contains (read_in n s layer) x
  pub unstable : IsUnstable x.0.held
  pub by : n.holder ≡ Some holder

-- no slot of those that are read is unstable
abbrev pub AreSettled : NodeView → ScanView → ℕ → Type 0
AreSettled n s layer = (x : Entry × Pair) → Contains (read_in n s layer) x → ¬ IsUnstable x.0.held

-- a slice of a layer is that of a greater tenant's keys: in the top layer it begins with the tenant's four bytes, and no other layer has keys of two tenants
abbrev pub IsOver : ℕ → ℕ → ℕ → Type 0
IsOver t layer slice = (layer ≡ 0) × ((t + 1) * 4294967296 ≤ slice)

-- the link at which the reading stops is one of the tenant's
pub record StopsAtLink (n : NodeView) (s : ScanView) (layer slice tree : ℕ) : Type 0 where
  pub link : Entry
  pub is : link_in n s layer ≡ Some link
  pub slice_is : link.slice ≡ slice
  pub leads : link.held ≡ helds.Link tree
  pub own : ¬ IsOver (tenant_of s.fence) layer slice

-- there is no link of the tenant's
abbrev pub HasNoLink : NodeView → ScanView → ℕ → Type 0
HasNoLink n s layer = (link : Entry) → link_in n s layer ≡ Some link → IsOver (tenant_of s.fence) layer link.slice

-- How the stretch ends: at the tenant's first link; else with the tenant, where the node's range goes so far; else with the node, or with its tree
abbrev pub StopsAt : NodeView → ScanView → ℕ → Stop → Type 0
StopsAt n s layer (stops.Link slice tree) = StopsAtLink n s layer slice tree
StopsAt n s layer (stops.Next slice) = HasNoLink n s layer × (n.high ≡ Some slice) × ¬ IsOver (tenant_of s.fence) layer slice
StopsAt n s layer stops.Tree = HasNoLink n s layer × (n.high ≡ None) × (layer ≢ 0)
StopsAt n s layer stops.Tenant = HasNoLink n s layer × IsOver (tenant_of s.fence) layer (end_of n.high)

-- the next node is remembered where the stretch ends with the node
abbrev pub next_at : Option ℕ → Stop → Option ℕ
next_at next (stops.Next slice) = next
next_at next _ = None

abbrev pub next_for : NodeView → Stop → Option ℕ
next_for n end = next_at n.next end

-- the bytes with which all keys of the walk's tree begin
abbrev pub prefix_in : ArenaView → Walk → Bytes
prefix_in v w = (tree_at v.trees w.place.tree).prefix

-- a step of Snap: the tenant's pairs among those that are read were seen, with the end of their stretch
pub record IsSnap (v : ArenaView) (before after : Walk) (was is : ScanView) : Type 0 where
  pub settled : AreSettled (at v before.place.node) was before.layer
  pub seen : is.seen ≡ own_pairs (tenant_of was.fence) (prefix_in v before) (read_in (at v before.place.node) was before.layer)
  pub stops : StopsAt (at v before.place.node) was before.layer is.stop
  pub rest : is ≡ record was { seen = is.seen; stop = is.stop }
  pub walk : after ≡ record before { next = next_for (at v before.place.node) is.stop; phase = Check }

-- who is in the way of Snap: nothing has changed then
abbrev pub SnapsOr : ArenaView → Walk → Walk → ScanView → ScanView → Option ℕ → Type 0
SnapsOr v before after was is None = IsSnap v before after was is
SnapsOr v before after was is (Some holder) = (after ≡ before) × (is ≡ was) × IsBlockedAmong (at v before.place.node) was before.layer holder
