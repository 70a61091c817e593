-- What the parts of Check answer: what is collected, and the next fence.
use Rattle.std.specs.{Prelude.{◌≡◌, ◌≢◌, ℕ, ◌≤◌, ◌++◌, ◌-◌, Bool, true, false, List, [], length, take, ◌↔◌, IsTrue}, Ordering.{nat_cmp, is_lt}}
use Rattle.std.specs.Cmp.Lexicographic.{slice_cmp}
use Rattle.mt_slices.specs.{Keys.IsStoredKey, Fences.{least_from, least_through, IsBehindAll}}
use Rattle.mt_rows.specs.Rows.{Bytes}
use Rattle.mt_operation.specs.{declared.phase.Phase.Phase, declared.phase.Phase.TheVariants.{Hop, Done}, declared.walk.Walk.Walk, Operations.ScanView}
use Rattle.mt_operation.specs.{declared.scan.Scan.Scan, declared.scan.Stop.Stop}
use Rattle.mt_walks.specs.Walked.{shown_all}
use Rattle.mt_scan.specs.{declared.behind.NextFence.NextFence, declared.behind.NextFence.TheVariants.{Over, Here, At}}
use Rattle.mt_scan.specs.Checks.{collects, kept_seen, at_fence, AreGreatest, walk_to, GoesBehind}
use Rattle.mt_operation.specs.declared.scan.Stop.TheVariants as stops

-- the key behind a stretch that ends so is one that may be stored
abbrev pub HasBehind : Bytes → Stop → Type 0
HasBehind prefix (stops.Link slice tree) = length prefix ≤ 246
HasBehind prefix (stops.Next slice) = (4 ≤ length (least_from prefix slice)) × (length (least_from prefix slice) ≤ 255)
HasBehind prefix stops.Tree = length prefix ≤ 255
HasBehind prefix stops.Tenant = Unit {0}

-- where a scan with this fence goes on behind such a stretch
abbrev pub IsNextFence : Bytes → Bytes → Stop → NextFence → Type 0
IsNextFence prefix key (stops.Link slice tree) Over = ⊥
IsNextFence prefix key (stops.Link slice tree) Here = (is_lt (slice_cmp nat_cmp key (least_through prefix slice)) ≡ false) × IsStoredKey (least_through prefix slice)
IsNextFence prefix key (stops.Link slice tree) (At fence) = (is_lt (slice_cmp nat_cmp key (least_through prefix slice)) ≡ true)
    × (fence ≡ least_through prefix slice) × IsStoredKey fence
IsNextFence prefix key (stops.Next slice) Over = ⊥
IsNextFence prefix key (stops.Next slice) Here = ⊥
IsNextFence prefix key (stops.Next slice) (At fence) = (fence ≡ least_from prefix slice) × IsStoredKey fence
IsNextFence prefix key stops.Tree Over = AreGreatest prefix
IsNextFence prefix key stops.Tree Here = ⊥
IsNextFence prefix key stops.Tree (At fence) = IsBehindAll prefix fence × IsStoredKey fence
IsNextFence prefix key stops.Tenant Over = Unit {0}
IsNextFence prefix key stops.Tenant Here = ⊥
IsNextFence prefix key stops.Tenant (At fence) = ⊥

-- a scan has kept what it has seen, up to so many pairs in all, and whether it has as many
pub record Collects (count : ℕ) (columns : List ℕ) (old new : Scan) (full : Bool) : Type 0 where
  pub collected : new.collected.items ≡ old.collected.items ++ shown_all columns (take (count - length old.collected.items) old.seen)
  pub seen : new.seen ≡ []
  pub after : new.after ≡ old.after
  pub stop_is : new.stop ≡ old.stop
  pub is_full : IsTrue full ↔ (length new.collected.items ≡ count)

-- a scan at its next fence, and the phase that its walk comes to
abbrev pub at_next : NextFence → ScanView → ScanView
at_next Over s = s
at_next Here s = s
at_next (At fence) s = at_fence s fence

abbrev pub phase_at : NextFence → Phase
phase_at Over = Done
phase_at Here = Hop
phase_at (At fence) = Hop

-- its fence is a key that may be stored; so is the least behind a link
abbrev pub IsStoredBehind : Bytes → Stop → ScanView → Type 0
IsStoredBehind prefix (stops.Link slice tree) is = IsStoredKey is.fence × IsStoredKey (least_through prefix slice)
IsStoredBehind prefix _ is = IsStoredKey is.fence

-- a scan has kept what it has seen: it is done where it has as many pairs as it was asked for, or goes on behind them
pub record Keeps (prefix : Bytes) (count : ℕ) (columns : List ℕ) (before after : Walk) (was is : ScanView) : Type 0 where
  pub full : length (collects count columns was) ≡ count → (is ≡ kept_seen count columns was) × (after ≡ walk_to Done before)
  pub goes : length (collects count columns was) ≢ count → GoesBehind prefix was.stop (kept_seen count columns was) is before after
  pub stored : length (collects count columns was) ≢ count → IsStoredBehind prefix was.stop is
