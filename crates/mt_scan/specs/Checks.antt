-- What Check keeps of the pairs that Snap has seen, and where a scan goes behind them.
use Rattle.std.specs.Prelude.{◌≡◌, ◌≢◌, ℕ, ◌-◌, ◌<◌, ◌≤◌, ◌⊎◌, ◌++◌, Bool, false, List, [], length, take, slice_index, if◌then◌else◌, Option, Some, None}
use Rattle.std.specs.{Ordering.{nat_cmp, is_lt}, Cmp.Lexicographic.slice_cmp}
use Rattle.mt_version.specs.Changes.{IsStable, SameButLock}
use Rattle.mt_slices.specs.Fences.{least_from, least_through, IsBehindAll}
use Rattle.mt_rows.specs.{declared.command.Command.TheVariants.Scan, Rows.{Bytes, AreIndexes}, Stamps.Stamped}
use Rattle.mt_arena.specs.NodeView.{NodeView}
use Rattle.mt_operation.specs.{declared.phase.Phase.Phase, declared.phase.Phase.TheVariants.{Hop, Done}, declared.walk.Walk.Walk, declared.scan.Stop.Stop}
use Rattle.mt_operation.specs.{declared.task.Task.Task, Operations.ScanView, Tasks.ask}
use Rattle.mt_descent.specs.WalkMoves.{IsBlocked, after_change}
use Rattle.mt_walks.specs.Walked.{shown_all}
use Rattle.mt_operation.specs.declared.scan.Stop.TheVariants as stops

-- the task is a scan for so many pairs, and these columns of their rows
pub record Asks (task : Task) (count : ℕ) (columns : List ℕ) : Type 0 where
  pub from : Bytes
  pub after : Bool
  pub is : ask task ≡ Scan from after count columns

-- some scan, which has not so many yet
pub record MayCheck (task : Task) (collected : List (Bytes × Stamped)) : Type 0 where
  pub count : ℕ
  pub columns : List ℕ
  pub asks : Asks task count columns
  pub indexes : AreIndexes columns
  pub few : length collected < count

-- the pairs that a scan has once it has kept those that it has seen, up to so many in all
abbrev pub collects : ℕ → List ℕ → ScanView → List (Bytes × Stamped)
collects count columns s = s.collected ++ shown_all columns (take (count - length s.collected) s.seen)

-- a scan that has seen nothing; and one that has kept what it has seen
abbrev pub unseen : ScanView → ScanView
unseen s = record s { seen = [] }

abbrev pub kept_seen : ℕ → List ℕ → ScanView → ScanView
kept_seen count columns s = record s { collected = collects count columns s; seen = [] }

-- a scan that has reached this fence, where it goes on
abbrev pub at_fence : ScanView → Bytes → ScanView
at_fence s fence = record s { fence = fence; after = false }

-- behind a link's own prefix, unless it was there before: it may have begun within the link's tree
abbrev pub past_link : Bytes → ℕ → ScanView → ScanView
past_link prefix slice s = if is_lt (slice_cmp nat_cmp s.fence (least_through prefix slice)) then at_fence s (least_through prefix slice) else s

-- all bytes behind the tenant's four are the greatest, so that the tenant has no key behind those that begin with these bytes
abbrev pub AreGreatest : Bytes → Type 0
AreGreatest prefix = (i : ℕ) → 4 ≤ i → i < length prefix → slice_index prefix i ≡ 255

-- the walk at another phase
abbrev pub walk_to : Phase → Walk → Walk
walk_to phase w = record w { phase = phase }

-- behind a tree: at the least key behind all of it; or the scan is done, where the tenant has none
pub record GoesBehindTree (prefix : Bytes) (s is : ScanView) : Type 0 where
  pub fence : Bytes
  pub behind : IsBehindAll prefix fence
  pub at : is ≡ at_fence s fence

-- where a scan goes behind a stretch that ends so: on by Hop from its next fence, or it is done
abbrev pub GoesBehind : Bytes → Stop → ScanView → ScanView → Walk → Walk → Type 0
GoesBehind prefix (stops.Link slice tree) s is w x = (is ≡ past_link prefix slice s) × (x ≡ walk_to Hop w)
GoesBehind prefix (stops.Next slice) s is w x = (is ≡ at_fence s (least_from prefix slice)) × (x ≡ walk_to Hop w)
GoesBehind prefix stops.Tree s is w x = (GoesBehindTree prefix s is × (x ≡ walk_to Hop w)) ⊎ (AreGreatest prefix × (is ≡ s) × (x ≡ walk_to Done w))
GoesBehind prefix stops.Tenant s is w x = (is ≡ s) × (x ≡ walk_to Done w)

-- the node is unmarked, and its version is the one that the walk remembers, but for the lock
abbrev pub IsUnchanged : NodeView → Walk → Type 0
IsUnchanged n w = IsStable n.version × SameButLock n.version w.place.seen

-- a step of Check of a node, of a scan for so many pairs: where the version is the same but for the lock the pairs are kept, and the scan is done where it has
-- as many, or goes on behind them; else they are dropped
pub record IsCheck (n : NodeView) (prefix : Bytes) (count : ℕ) (columns : List ℕ) (before after : Walk) (was is : ScanView) : Type 0 where
  pub stable : IsStable n.version
  pub full : SameButLock n.version before.place.seen → length (collects count columns was) ≡ count
      → (is ≡ kept_seen count columns was) × (after ≡ walk_to Done before)
  pub goes : SameButLock n.version before.place.seen → length (collects count columns was) ≢ count
      → GoesBehind prefix was.stop (kept_seen count columns was) is before after
  pub changed : ¬ SameButLock n.version before.place.seen → (is ≡ unseen was) × (after ≡ after_change before n.version n.next)

abbrev pub ChecksOr : NodeView → Bytes → ℕ → List ℕ → Walk → Walk → ScanView → ScanView → Option ℕ → Type 0
ChecksOr n prefix count columns before after was is None = IsCheck n prefix count columns before after was is
ChecksOr n prefix count columns before after was is (Some holder) = (after ≡ before) × (is ≡ was) × IsBlocked n holder
