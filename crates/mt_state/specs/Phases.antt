-- The table of phases: where the step of each phase leads, and under which condition. Each walk is that of before with what the step has changed; a
-- step that reads a marked node, or locks a locked one, is none (`IsInTheWay` of `Promises`).
use Rattle.std.specs.Prelude.{◌≡◌, ℕ, ◌+◌, ◌⊎◌, false, if◌then◌else◌, length, Option, Some, None, ◌≢◌, List, [], ◌∷◌}
use Rattle.mt_version.specs.Changes.{IsStable}
use Rattle.mt_slices.specs.Keys.{stored_key}
use Rattle.mt_rows.specs.{declared.command.Command.Command, declared.command.Command.TheVariants.Scan, Rows.Bytes, Stamps.{Stamped, stamp_in}, Maps.is_scan, Commands.key_of}
use Rattle.mt_border.specs.{declared.entry.Find.Find, Contents.owned}
use Rattle.mt_arena.specs.{declared.tree.Standing.TheVariants.{Made, Dead}, NodeView.{NodeView, place_at}, Forests.tree_at, Layers.slot_at, Arena.{ArenaView, content_of}, Accesses.at}
use Rattle.mt_operation.specs.declared.phase.Phase.{Phase}
use Rattle.mt_operation.specs.declared.phase.Phase.TheVariants.{Enter, Pick, Child, Verify, Search, Load, Confirm, Forward, Lock, Judge, Store, Fill, Publish, SplitStart, SplitMove, SplitPrev, LockParent, InsertChild, InteriorSplit, Reparent, RootGrow, MakeLayer, MarkUnstable, Link, MarkLayer, DropKey, LockPrev, LockAbove, Unlink, FixNext, Collapse, CleanLayer, Unlock, Snap, Check, Hop}
use Rattle.mt_operation.specs.{declared.walk.Walk.Walk, declared.outcome.Outcome.Outcome, Operations.{OperationView, SplitsView, ScanView}}
use Rattle.mt_operation.specs.{Phases.{is_done, Kind, row}, declared.removal.Removal.Removal, declared.splits.Halves.Halves}
use Rattle.mt_descent.specs.{Seen.child_for, KeptWalks.{IsInSlot, slice_in}}
use Rattle.mt_descent.specs.WalkMoves.{Verifies, FindsIn, Loads, Confirms, Locks, walk_into, walk_here, after_enter, after_pick, after_child, after_search, after_forward}
use Rattle.mt_scan.specs.{Snaps.{prefix_in, AreSettled, IsSnap}, Checks.{IsUnchanged, IsCheck}, Hops.HopsTo}
use Rattle.mt_held.specs.Moves.{walk_placed, walk_done, walk_at}
use Rattle.mt_insert.specs.{Puts.MeetsStamp, Judge.{StandsIn, after_judge}, KeptSplits.last_half, SplitEdits.{for_parent, after_reparent}, SplitMove.after_parting}
use Rattle.mt_layer.specs.NewLayers.{walk_linked}
use Rattle.mt_state.specs.{declared.moves.Move.Move, declared.moves.Move.TheVariants.{Moved, Done as DoneMove}, Views.{StateView, op_at}}
use Rattle.mt_remove.specs.{RemovalEdits.{IsToUnlink, for_rest, after_unlink}, Unlinks.IsChildBefore, Judge.IsAbsent, CleanLayer.{LeadsTo as LeadsKey}}
use Rattle.mt_remove.specs.{Unlock.EmptiesLayer, Ways.IsJustBelow}
use Rattle.std.specs.FinMap as pairs
use Rattle.mt_border.specs.Held as helds
use Rattle.mt_border.specs.declared.entry.FoundKind.TheVariants as kinds
use Rattle.mt_operation.specs.declared.walk.Taken.TheVariants as takens
use Rattle.mt_operation.specs.Phases as phase_kinds

-- from MakeLayer: on to make the layer of a tree that the operation has begun at this step: a new one, or one in the record of a dead one
pub record BeginsTree (o : ℕ) (old new : ArenaView) (w x : Walk) : Type 0 where
  pub tree : ℕ
  pub idle : (tree ≡ length old.trees) ⊎ ((tree_at old.trees tree).standing ≡ Dead)
  pub made : (tree_at new.trees tree).standing ≡ Made o
  pub goes : x ≡ walk_linked w tree

-- from Forward: by the next node, which is unmarked; where there is none, the walk stays at its own
abbrev pub GoesForward : Option ℕ → ArenaView → Bytes → Walk → Walk → Type 0
GoesForward None v key w x = x ≡ walk_here w
GoesForward (Some j) v key w x = IsStable (at v j).version × (x ≡ after_forward w (slice_in key w) j (at v j))

-- from Load: what the slot holds was taken, and is to be confirmed; or a row was there, and no memory to show it
pub record GoesFromLoad (n : NodeView) (w x : Walk) : Type 0 where
  pub row : Option Stamped
  pub taken : Walk
  pub loads : Loads n w taken row
  pub goes : (x ≡ taken) ⊎ ((row ≢ None) × (x ≡ walk_done taken))

-- from Judge, by what the node has: the key's slot, or no slot of its slice and mark
pub record JudgesKey (n : NodeView) (key : Bytes) (w x : Walk) : Type 0 where
  pub slot : Option ℕ
  pub stands : StandsIn n key w.layer slot
  pub goes : x ≡ after_judge n slot w

-- another long key in the key's place: a layer is made for both
pub record JudgesOther (n : NodeView) (key : Bytes) (w x : Walk) : Type 0 where
  pub slot : ℕ
  pub stands : IsInSlot n slot key w.layer kinds.OtherLong
  pub goes : x ≡ record w { slot = slot; phase = MakeLayer }

-- a link: on in its tree
pub record JudgesLink (n : NodeView) (key : Bytes) (w x : Walk) : Type 0 where
  pub slot : ℕ
  pub stands : IsInSlot n slot key w.layer kinds.Link
  pub tree : ℕ
  pub leads : (slot_at n (place_at n slot)).held ≡ helds.Link tree
  pub goes : x ≡ walk_into w tree (w.layer + 1)

-- from LockParent: a root is made where there is no parent; else the parent's room decides, which nobody held
abbrev pub GoesAbove : Option ℕ → ArenaView → Walk → Walk → Type 0
GoesAbove None v w x = x ≡ walk_at RootGrow w
GoesAbove (Some p) v w x = ((at v p).holder ≡ None) × (x ≡ walk_at (for_parent (at v p)) w)

-- from Lock: the node is held, or the walk goes on
abbrev pub IsBackAbove : ArenaView → ℕ → Walk → Walk → Type 0
IsBackAbove old tree w reached = (reached.phase ≡ Judge) × IsJustBelow (tree_at old.trees tree) w.layer

-- and so on the way back to the link of this tree, which is taken out next where the layer is the one above
pub record LocksBack (o : ℕ) (old new : ArenaView) (r : Removal) (w x : Walk) : Type 0 where
  pub tree : ℕ
  pub cleans_is : r.cleans ≡ Some tree
  pub reached : Walk
  pub locks : Locks o old new w reached
  pub cleans : IsBackAbove old tree w reached → x ≡ walk_at CleanLayer reached
  pub goes : ¬ IsBackAbove old tree w reached → x ≡ reached

abbrev pub LocksBy : Option Outcome → ℕ → ArenaView → ArenaView → Removal → Walk → Walk → Type 0
LocksBy None o old new r w x = Locks o old new w x
LocksBy (Some told) o old new r w x = LocksBack o old new r w x

-- from Judge: the key's slot, from which its pair is taken next
pub record JudgesRemoval (n : NodeView) (key : Bytes) (w x : Walk) : Type 0 where
  pub slot : ℕ
  pub stands : IsInSlot n slot key w.layer kinds.ThisKey
  pub goes : x ≡ record w { slot = slot; phase = DropKey }

-- no link on the way back: the operation is done
pub record JudgesNone (n : NodeView) (key : Bytes) (w x : Walk) : Type 0 where
  pub none : (slot : ℕ) → ¬ IsInSlot n slot key w.layer kinds.Link
  pub goes : x ≡ walk_done w

-- a removal whose key is missing, or another long one in its place: it is done
pub record JudgesAbsent (n : NodeView) (key : Bytes) (w x : Walk) : Type 0 where
  pub found : Find
  pub finds : FindsIn n key w.layer found
  pub absent : IsAbsent found
  pub goes : x ≡ walk_done w

-- no memory for what the next step places or takes out, in the key's slot or in one that is wanted: it is done
pub record JudgesShort (n : NodeView) (key : Bytes) (w x : Walk) : Type 0 where
  pub slot : Option ℕ
  pub stands : StandsIn n key w.layer slot
  pub goes : x ≡ walk_done w

-- a put that asks for another stamp than this one, which stands at its key, 0 if nothing stands: it is done
pub record JudgesStale (command : Command) (standing : ℕ) (n : NodeView) (key : Bytes) (w x : Walk) : Type 0 where
  pub slot : Option ℕ
  pub stands : StandsIn n key w.layer slot
  pub stale : ¬ MeetsStamp command standing
  pub goes : x ≡ walk_done w

-- by whether it goes to its key, where it may also miss that, find another stamp, or be stopped; or goes back
abbrev pub JudgesBy : Option Outcome → Command → ℕ → NodeView → Bytes → Walk → Walk → Type 0
JudgesBy None command standing n key w x =
    JudgesKey n key w x ⊎ JudgesOther n key w x ⊎ JudgesLink n key w x ⊎ JudgesRemoval n key w x ⊎ JudgesAbsent n key w x ⊎ JudgesShort n key w x
    ⊎ JudgesStale command standing n key w x
JudgesBy (Some told) command standing n key w x = JudgesLink n key w x ⊎ JudgesNone n key w x

-- behind a slot that was taken out: the border node is taken out too, where it is empty and no first child; else all is given back
pub record LeavesSlot (v : ArenaView) (w x : Walk) : Type 0 where
  pub unlinks : IsToUnlink v w.place.node → x ≡ walk_at LockPrev w
  pub returns : ¬ IsToUnlink v w.place.node → x ≡ walk_at Unlock w

-- from LockPrev: the node before, which nobody held, was locked
pub record LocksBefore (v : ArenaView) (w x : Walk) : Type 0 where
  pub left : ℕ
  pub left_is : (at v w.place.node).previous ≡ Some left
  pub free : (at v left).holder ≡ None
  pub goes : x ≡ walk_at LockAbove w

-- from LockAbove: the parent, which nobody held, was locked; the node is taken out where the child before it is the held neighbour
pub record LocksParent (v : ArenaView) (r : Removal) (w x : Walk) : Type 0 where
  pub parent : ℕ
  pub parent_is : (at v w.place.node).parent ≡ Some parent
  pub free : (at v parent).holder ≡ None
  pub unlinks : IsChildBefore (at v parent) (at v w.place.node).low r.left → x ≡ walk_at Unlink w
  pub returns : ¬ IsChildBefore (at v parent) (at v w.place.node).low r.left → x ≡ walk_at Unlock w

-- from CleanLayer: no slot leads to the tree; or its root, which nobody held, was locked, and has a key; or it was empty, and was taken out with the link
pub record CleansNone (old : ArenaView) (key : Bytes) (tree : ℕ) (w x : Walk) : Type 0 where
  pub none : (slot : ℕ) → ¬ LeadsKey (at old w.place.node) key w.layer tree slot
  pub goes : x ≡ walk_at Unlock w

pub record CleansFull (old : ArenaView) (tree : ℕ) (w x : Walk) : Type 0 where
  pub free : (at old (tree_at old.trees tree).root).holder ≡ None
  pub full : (at old (tree_at old.trees tree).root).level ≡ 0 → (at old (tree_at old.trees tree).root).slots ≢ []
  pub goes : x ≡ walk_at Unlock w

pub record CleansEmpty (old new : ArenaView) (tree : ℕ) (w x : Walk) : Type 0 where
  pub free : (at old (tree_at old.trees tree).root).holder ≡ None
  pub border : (at old (tree_at old.trees tree).root).level ≡ 0
  pub empty : (at old (tree_at old.trees tree).root).slots ≡ []
  pub goes : LeavesSlot new w x

-- from Unlock: an operation without an outcome has made a layer, and goes on in its tree; one that has split is done; and so is any other, but for a removal
-- that has left a layer empty: it goes back from the top
pub record ReturnsAll (v : ArenaView) (r : Removal) (w x : Walk) : Type 0 where
  pub cleans : EmptiesLayer v w r → x ≡ walk_into w 0 0
  pub ends : ¬ EmptiesLayer v w r → x ≡ walk_done w

abbrev pub ReturnsBy : List Halves → ArenaView → Removal → Walk → Walk → Type 0
ReturnsBy [] v r w x = ReturnsAll v r w x
ReturnsBy (_ ∷ _) v r w x = x ≡ walk_done w

abbrev pub GoesFromUnlock : Option Outcome → ArenaView → SplitsView → Removal → Walk → Walk → Type 0
GoesFromUnlock (Some told) v s r w x = ReturnsBy s.halves v r w x
GoesFromUnlock None v s r w x = (tree : ℕ) × (w.taken ≡ takens.Link tree) × (x ≡ walk_into w tree (w.layer + 1))

-- what a step makes of what an operation of this command has scanned
pub record ScanStep : Type 0 where
  pub command : Command
  pub was : ScanView
  pub is : ScanView

-- from Check of a scan that was asked so: where the version is the same but for the lock the pairs that were seen are kept, else they are dropped; a scan that is
-- done shows those that it has, and remembers them no more
pub record ChecksPairs (n : NodeView) (prefix : Bytes) (count : ℕ) (columns : List ℕ) (g : ScanStep) (w x : Walk) : Type 0 where
  pub kept : ScanView
  pub checks : IsCheck n prefix count columns w x g.was kept
  pub left : is_done x.phase ≡ false → g.is ≡ kept

abbrev pub ChecksBy : Command → NodeView → Bytes → ScanStep → Walk → Walk → Type 0
ChecksBy (Scan from after count columns) n prefix g w x = ChecksPairs n prefix count columns g w x
ChecksBy _ n prefix g w x = ⊥

-- Where the step of this number of an operation leads from each phase: of operation o for this key, with this outcome so far, these splits, this removal and this of
-- its scan. A phase that makes a growth may end the operation for want of memory, but only if it came to the growth: Snap if nothing that it reads is unstable,
-- Check if the version stands, Load if a row was there, and Judge if the key's slot was found, or one is wanted.
abbrev pub LeadsTo : Phase → ArenaView → ArenaView → ℕ → ℕ → Bytes → Option Outcome → SplitsView → Removal → ScanStep → Walk → Walk → Type 0
LeadsTo Enter old new o step key told s r g w x = IsStable (at old (tree_at old.trees w.place.tree).root).version
    × (x ≡ after_enter (tree_at old.trees w.place.tree).standing w (tree_at old.trees w.place.tree).root (at old (tree_at old.trees w.place.tree).root).version)
LeadsTo Pick old new o step key told s r g w x = x ≡ after_pick w (child_for (at old w.place.node) (slice_in key w))
LeadsTo Child old new o step key told s r g w x = IsStable (at old w.child).version × (x ≡ after_child w (at old w.child).version)
LeadsTo Verify old new o step key told s r g w x = IsStable (at old w.place.node).version × Verifies (at old w.place.node) w x
LeadsTo Search old new o step key told s r g w x = (found : Find) × FindsIn (at old w.place.node) key w.layer found × (x ≡ after_search found w step)
LeadsTo Load old new o step key told s r g w x = GoesFromLoad (at old w.place.node) w x
LeadsTo Confirm old new o step key told s r g w x = IsStable (at old w.place.node).version × Confirms (at old w.place.node) w x
LeadsTo Forward old new o step key told s r g w x = GoesForward w.next old key w x
LeadsTo Lock old new o step key told s r g w x = ((at old w.place.node).holder ≡ None) × LocksBy told o old new r w x
LeadsTo Judge old new o step key told s r g w x = JudgesBy told g.command (stamp_in (pairs.get (content_of old) (owned key))) (at old w.place.node) key w x
LeadsTo Store old new o step key told s r g w x = x ≡ walk_placed w
LeadsTo Fill old new o step key told s r g w x = x ≡ walk_at Publish w
LeadsTo Publish old new o step key told s r g w x = x ≡ walk_placed w
LeadsTo SplitStart old new o step key told s r g w x = (x ≡ walk_at SplitMove w) ⊎ (x ≡ walk_done w)
LeadsTo SplitMove old new o step key told s r g w x = x ≡ walk_at (after_parting (at old w.place.node).next) w
LeadsTo SplitPrev old new o step key told s r g w x = x ≡ walk_at LockParent w
LeadsTo LockParent old new o step key told s r g w x = GoesAbove (at old (last_half s).left).parent old w x
LeadsTo InsertChild old new o step key told s r g w x = x ≡ walk_at Unlock w
LeadsTo InteriorSplit old new o step key told s r g w x = x ≡ walk_at Reparent w
LeadsTo Reparent old new o step key told s r g w x = x ≡ walk_at (after_reparent (at old (last_half s).right) s.moved) w
LeadsTo RootGrow old new o step key told s r g w x = x ≡ walk_at Unlock w
LeadsTo MakeLayer old new o step key told s r g w x = BeginsTree o old new w x ⊎ (x ≡ walk_done w)
LeadsTo MarkUnstable old new o step key told s r g w x = x ≡ walk_at Link w
LeadsTo Link old new o step key told s r g w x = x ≡ walk_at MarkLayer w
LeadsTo MarkLayer old new o step key told s r g w x = x ≡ walk_at Unlock w
LeadsTo DropKey old new o step key told s r g w x = LeavesSlot new w x
LeadsTo LockPrev old new o step key told s r g w x = LocksBefore old w x
LeadsTo LockAbove old new o step key told s r g w x = LocksParent old r w x
LeadsTo Unlink old new o step key told s r g w x =
    (parent : ℕ) × (r.parent ≡ Some parent) × (x ≡ walk_at (after_unlink (at old w.place.node).next (at new parent)) w)
LeadsTo FixNext old new o step key told s r g w x = (parent : ℕ) × (r.parent ≡ Some parent) × (x ≡ walk_at (for_rest (at old parent)) w)
LeadsTo Collapse old new o step key told s r g w x = x ≡ walk_at Unlock w
LeadsTo CleanLayer old new o step key told s r g w x =
    (tree : ℕ) × (r.cleans ≡ Some tree) × (CleansNone old key tree w x ⊎ CleansFull old tree w x ⊎ CleansEmpty old new tree w x)
LeadsTo Unlock old new o step key told s r g w x = GoesFromUnlock told old s r w x
LeadsTo Snap old new o step key told s r g w x = IsSnap old w x g.was g.is ⊎ (AreSettled (at old w.place.node) g.was w.layer × (x ≡ walk_done w))
LeadsTo Check old new o step key told s r g w x = ChecksBy g.command (at old w.place.node) (prefix_in old w) g w x ⊎ (IsUnchanged (at old w.place.node) w × (x ≡ walk_done w))
LeadsTo Hop old new o step key told s r g w x = HopsTo old g.was.stop w x × (g.is ≡ g.was)
LeadsTo _ old new o step key told s r g w x = ⊥

-- the key that the walk of an operation looks for: that of its command, or the fence that a scan has reached
abbrev pub key_sought : OperationView → Bytes
key_sought op = if is_scan op.command then op.scan.fence else stored_key op.tenant (key_of op.command)

-- the steps of a scan alone change what is scanned
abbrev pub StaysScanned : Kind → ScanView → ScanView → Type 0
StaysScanned phase_kinds.Scans was is = Unit {0}
StaysScanned _ was is = is ≡ was

-- The step of an operation from its phase by the table, as it is shown: but for the number of the first step, which it sets, its walk is the one to which the
-- table leads.
pub record GoesBy (old new : ArenaView) (o step : ℕ) (before after : OperationView) : Type 0 where
  pub walk : Walk
  pub leads : LeadsTo before.phase old new o step (key_sought before) before.outcome before.splits before.removal
      (record { command = before.command; was = before.scan; is = after.scan }) before.walk walk
  pub is : after.walk ≡ record walk { first = after.first }
  pub stays : StaysScanned (row before.phase).kind before.scan after.scan

-- the step that operation o has made leads where the table says
abbrev pub Leads : StateView → StateView → ℕ → Type 0
Leads old new o =
    (before after : OperationView) → op_at old.table o ≡ Some before → op_at new.table o ≡ Some after → GoesBy old.arena new.arena o (old.steps + 1) before after

-- so does a step that moves it, and its last one
abbrev pub LeadsOn : StateView → StateView → ℕ → Move → Type 0
LeadsOn old new o Moved = Leads old new o
LeadsOn old new o DoneMove = Leads old new o
LeadsOn old new o answer = Unit {0}
