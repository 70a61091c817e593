-- What is kept of a removal, by its next phase. Each fact speaks of nodes that the operation holds.
use Rattle.std.specs.Prelude.{◌≡◌, ◌≢◌, ℕ, ◌<◌, ◌⊎◌, true, false, [], ◌∷◌, length, Option, Some, None}
use Rattle.mt_rows.specs.Rows.{Bytes}
use Rattle.mt_border.specs.{Held.Pair, Held.{Stable, Link}, Contents.row_of, declared.entry.FoundKind.TheVariants.ThisKey}
use Rattle.mt_arena.specs.{NodeView.NodeView, Nodes.HasChild, Layers.slot_at, Lags.IsFollowedBy, Arena.ArenaView, Accesses.{at, IsHeld, IsOpen}}
use Rattle.mt_arena.specs.Removals.{AreBeside}
use Rattle.mt_operation.specs.declared.phase.Phase.{Phase}
use Rattle.mt_operation.specs.{declared.phase.Phase.TheVariants.{LockPrev, LockAbove, Unlink, FixNext, Collapse, CleanLayer, Unlock}, declared.walk.Walk.Walk}
use Rattle.mt_operation.specs.{declared.task.Task.Task, declared.prepared.Prepared.Prepared, declared.removal.Removal.Removal}
use Rattle.mt_descent.specs.KeptWalks.{GoesThrough, IsInSlot, walk_place}
use Rattle.mt_held.specs.Holds.{HoldsBorder, MayReturn}
use Rattle.mt_remove.specs.Writes.{IsReady}

-- the nodes that a removal holds
abbrev pub IsAmong : Walk → Removal → ℕ → Type 0
IsAmong w r k = (k ≡ w.place.node) ⊎ (r.left ≡ Some k) ⊎ (r.parent ≡ Some k) ⊎ (r.below ≡ Some k)

abbrev pub HoldsRemoval : ArenaView → ℕ → Walk → Removal → Type 0
HoldsRemoval v op w r = (k : ℕ) → k < length v.nodes → (at v k).holder ≡ Some op → IsAmong w r k

-- at DropKey: the walk's slot has the key's pair, and what was made ready is the removal of its row
pub record IsAtDropKey (v : ArenaView) (op : ℕ) (task : Task) (prepared : Prepared) (w : Walk) : Type 0 where
  pub holds : HoldsBorder v op task.key w
  pub in_slot : IsInSlot (at v w.place.node) w.slot task.key w.layer ThisKey
  pub pair : Pair
  pub stable : (slot_at (at v w.place.node) (walk_place v w)).held ≡ Stable pair
  pub ready : IsReady task (row_of pair) prepared

-- a node of the walk's tree that the operation may give back, and one of another tree: the root of the layer below
pub record IsOurs (v : ArenaView) (op : ℕ) (w : Walk) (level k : ℕ) : Type 0 where
  pub returns : MayReturn v op level k
  pub tree : (at v k).tree ≡ w.place.tree

pub record IsLowerRoot (v : ArenaView) (op : ℕ) (w : Walk) (k : ℕ) : Type 0 where
  pub level : ℕ
  pub returns : MayReturn v op level k
  pub apart : (at v k).tree ≢ w.place.tree

-- what is kept of every removal behind DropKey: its way, and the root of the layer below, where it holds one
pub record IsRemoving (v : ArenaView) (op : ℕ) (key : Bytes) (w : Walk) (r : Removal) : Type 0 where
  pub through : GoesThrough v w.place.tree w.layer key
  pub below : (k : ℕ) → r.below ≡ Some k → IsLowerRoot v op w k

-- the operation holds its border node, which is live and empty and no first child
pub record HoldsEmpty (v : ArenaView) (op : ℕ) (w : Walk) : Type 0 where
  pub node : IsOurs v op w 0 w.place.node
  pub live : (at v w.place.node).version.deleted ≡ false
  pub whole : (at v w.place.node).version.splitting ≡ false
  pub empty : (at v w.place.node).slots ≡ []
  pub later : 0 < (at v w.place.node).low
  pub child : (at v w.place.node).parent ≢ None

-- at LockPrev
pub record IsAtLockPrev (v : ArenaView) (op : ℕ) (key : Bytes) (w : Walk) (r : Removal) : Type 0 where
  pub removes : IsRemoving v op key w r
  pub node : HoldsEmpty v op w
  pub no_left : r.left ≡ None
  pub no_above : r.parent ≡ None

-- the node before it is held
pub record HoldsLeft (v : ArenaView) (op : ℕ) (w : Walk) (left : ℕ) : Type 0 where
  pub node : IsOurs v op w 0 left
  pub live : (at v left).version.deleted ≡ false
  pub next : (at v left).next ≡ Some w.place.node
  pub differ : left ≢ w.place.node

-- at LockAbove
pub record IsAtLockAbove (v : ArenaView) (op : ℕ) (key : Bytes) (w : Walk) (r : Removal) : Type 0 where
  pub removes : IsRemoving v op key w r
  pub node : HoldsEmpty v op w
  pub left : ℕ
  pub left_is : r.left ≡ Some left
  pub has_left : HoldsLeft v op w left
  pub no_above : r.parent ≡ None

-- the parent is held: it is live, and no one splits it
pub record HoldsAbove (v : ArenaView) (op : ℕ) (w : Walk) (parent : ℕ) : Type 0 where
  pub node : IsOurs v op w 1 parent
  pub live : (at v parent).version.deleted ≡ false
  pub whole : (at v parent).version.splitting ≡ false

-- at Unlink: the node before it is so in the parent too
pub record IsAtUnlink (v : ArenaView) (op : ℕ) (key : Bytes) (w : Walk) (r : Removal) : Type 0 where
  pub removes : IsRemoving v op key w r
  pub node : HoldsEmpty v op w
  pub left : ℕ
  pub left_is : r.left ≡ Some left
  pub has_left : HoldsLeft v op w left
  pub parent : ℕ
  pub parent_is : r.parent ≡ Some parent
  pub has_above : HoldsAbove v op w parent
  pub beside : AreBeside (at v parent) left w.place.node

-- a node of the walk's tree that the operation holds, and which only this one names as the one before
pub record IsNamedBy (v : ArenaView) (op : ℕ) (w : Walk) (k : ℕ) (named : Option ℕ) : Type 0 where
  pub held : IsHeld v k op
  pub border : (at v k).level ≡ 0
  pub tree : (at v k).tree ≡ w.place.tree
  pub mine : IsOpen v k op
  pub followed : IsFollowedBy v.nodes k (at v k) named

-- at FixNext: the node was taken out, and the one behind still names it
pub record IsAtFixNext (v : ArenaView) (op : ℕ) (key : Bytes) (w : Walk) (r : Removal) : Type 0 where
  pub removes : IsRemoving v op key w r
  pub left : ℕ
  pub left_is : r.left ≡ Some left
  pub parent : ℕ
  pub parent_is : r.parent ≡ Some parent
  pub behind : ℕ
  pub next : (at v left).next ≡ Some behind
  pub node : IsNamedBy v op w w.place.node (Some behind)
  pub gone : (at v w.place.node).version.deleted ≡ true
  pub has_left : IsNamedBy v op w left None
  pub live : (at v left).version.deleted ≡ false
  pub differ : left ≢ w.place.node
  pub has_above : HoldsAbove v op w parent
  pub child : HasChild (at v parent) left

-- at Collapse: the left neighbour is the only child of its parent, which is the root
pub record IsAtCollapse (v : ArenaView) (op : ℕ) (key : Bytes) (w : Walk) (r : Removal) : Type 0 where
  pub removes : IsRemoving v op key w r
  pub left : ℕ
  pub left_is : r.left ≡ Some left
  pub parent : ℕ
  pub parent_is : r.parent ≡ Some parent
  pub node : IsOurs v op w 0 w.place.node
  pub has_left : IsOurs v op w 0 left
  pub differ : left ≢ w.place.node
  pub has_above : HoldsAbove v op w parent
  pub root : (at v parent).version.root ≡ true
  pub only : (at v parent).children ≡ left ∷ []

-- at CleanLayer: the operation holds its border node as its lock was taken
pub record IsAtCleanLayer (v : ArenaView) (op : ℕ) (key : Bytes) (w : Walk) (r : Removal) : Type 0 where
  pub holds : HoldsBorder v op key w
  pub tree : ℕ
  pub cleans : r.cleans ≡ Some tree
  pub no_left : r.left ≡ None
  pub no_above : r.parent ≡ None
  pub no_below : r.below ≡ None

-- at Unlock: all that is held may be given back
pub record IsAtUnlockRemoval (v : ArenaView) (op : ℕ) (key : Bytes) (w : Walk) (r : Removal) : Type 0 where
  pub removes : IsRemoving v op key w r
  pub node : IsOurs v op w 0 w.place.node
  pub left : (k : ℕ) → r.left ≡ Some k → IsOurs v op w 0 k × (k ≢ w.place.node)
  pub parent : (k : ℕ) → r.parent ≡ Some k → IsOurs v op w 1 k

-- what is kept of a removal by its next phase, from the step on that has taken its key out, or has come to the link of an empty layer
abbrev pub KeptRemoval : Phase → ArenaView → ℕ → Bytes → Walk → Removal → Type 0
KeptRemoval LockPrev v op key w r = IsAtLockPrev v op key w r
KeptRemoval LockAbove v op key w r = IsAtLockAbove v op key w r
KeptRemoval Unlink v op key w r = IsAtUnlink v op key w r
KeptRemoval FixNext v op key w r = IsAtFixNext v op key w r
KeptRemoval Collapse v op key w r = IsAtCollapse v op key w r
KeptRemoval CleanLayer v op key w r = IsAtCleanLayer v op key w r
KeptRemoval Unlock v op key w r = IsAtUnlockRemoval v op key w r
KeptRemoval _ v op key w r = ⊥

-- slot i of a live border node, which the operation holds, is a link to tree u
pub record HoldsLink (v : ArenaView) (op node i u : ℕ) : Type 0 where
  pub held : IsHeld v node op
  pub live : (at v node).version.deleted ≡ false
  pub border : (at v node).level ≡ 0
  pub in_range : i < length (at v node).slots
  pub link : (slot_at (at v node) i).held ≡ Link u

-- an empty node that is no first child
pub record IsEmptyChild (n : NodeView) : Type 0 where
  pub empty : n.slots ≡ []
  pub child : n.parent ≢ None
  pub later : 0 < n.low

-- the operation goes to take out the link of this tree, which its key goes through
pub record IsCleaning (v : ArenaView) (key : Bytes) (r : Removal) : Type 0 where
  pub tree : ℕ
  pub layer : ℕ
  pub cleans : r.cleans ≡ Some tree
  pub through : GoesThrough v tree layer key
  pub no_left : r.left ≡ None
  pub no_above : r.parent ≡ None
  pub no_below : r.below ≡ None

-- the operation holds none beside its border node
pub record IsUnburdened (r : Removal) : Type 0 where
  pub left : r.left ≡ None
  pub parent : r.parent ≡ None
  pub below : r.below ≡ None
