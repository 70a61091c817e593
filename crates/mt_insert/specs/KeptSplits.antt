-- What is kept of a put that splits nodes, by its next phase. Each fact speaks of nodes that the operation holds, from the lowest level up.
use Rattle.std.specs.{Prelude.{◌≡◌, ◌≢◌, ℕ, ◌-◌, ◌<◌, ◌≤◌, ◌⊎◌, true, false, List, length, Some, None, slice_index, slice_index_or}, List.All}
use Rattle.mt_slices.specs.Slices.{slice_of, mark_of, suffix_of}
use Rattle.mt_interior.specs.Fences.{end_of}
use Rattle.mt_arena.specs.{NodeView.{NodeView, node_at}, Nodes.{Holds, HasChild}, NodeFacts.IsUnstable, Lags.{Follows, IsUnder, AreFollowers, AreChildren}}
use Rattle.mt_arena.specs.{Arena.ArenaView, Accesses.{at, IsHeld, IsOpen}, Several.MaySplit}
use Rattle.mt_operation.specs.declared.phase.Phase.{Phase}
use Rattle.mt_operation.specs.declared.phase.Phase.TheVariants.{SplitPrev, LockParent, InsertChild, InteriorSplit, Reparent, RootGrow, Unlock}
use Rattle.mt_operation.specs.{declared.walk.Walk.Walk, declared.task.Task.Task, declared.prepared.Prepared.Prepared, declared.splits.Halves.Halves}
use Rattle.mt_operation.specs.{declared.splits.Splits.Splits, Operations.SplitsView}
use Rattle.mt_descent.specs.KeptWalks.{GoesThrough}
use Rattle.mt_held.specs.Holds.{MayReturn}
use Rattle.mt_insert.specs.Puts.{IsReady}

-- the halves at a place of the list, and the last ones
abbrev pub halves_at : List Halves → ℕ → Halves
halves_at halves i = slice_index_or halves i (record { left = 0; right = 0 })

abbrev pub last_of : Splits → Halves
last_of s = halves_at s.halves.items (length s.halves.items - 1)

-- the same of what is shown of splits
abbrev pub last_half : SplitsView → Halves
last_half s = halves_at s.halves (length s.halves - 1)

-- the node is a half of one of these splits, and it is one of all nodes that the operation holds
pub record IsHalf (halves : List Halves) (k : ℕ) : Type 0 where
  pub place : ℕ
  pub in_range : place < length halves
  pub is : ((halves_at halves place).left ≡ k) ⊎ ((halves_at halves place).right ≡ k)

abbrev pub IsAmong : Splits → ℕ → Type 0
IsAmong s k = IsHalf s.halves.items k ⊎ (s.above ≡ Some k)

-- the operation holds no other node than these
abbrev pub HoldsSplits : ArenaView → ℕ → Splits → Type 0
HoldsSplits v op s = (k : ℕ) → k < length v.nodes → (at v k).holder ≡ Some op → IsAmong s k

-- and so both halves of a split
pub record MayReturnBoth (v : ArenaView) (op level : ℕ) (h : Halves) : Type 0 where
  pub differ : h.left ≢ h.right
  pub left : MayReturn v op level h.left
  pub right : MayReturn v op level h.right

-- the halves of so many splits, each a level above the one before
abbrev pub AreReturnable : ArenaView → ℕ → List Halves → ℕ → Type 0
AreReturnable v op halves count = (i : ℕ) → i < count → MayReturnBoth v op i (halves_at halves i)

-- a live node of this level that the operation holds and has marked for readers of its range
pub record IsSplitting (v : ArenaView) (op level k : ℕ) : Type 0 where
  pub held : IsHeld v k op
  pub level_is : (at v k).level ≡ level
  pub live : (at v k).version.deleted ≡ false
  pub marked : (at v k).version.splitting ≡ true
  pub stable : All (λ e. ¬ IsUnstable e.held) (at v k).slots

-- a node and its right half, which has the upper part of its range and waits for its place in the parent
pub record AreParted (v : ArenaView) (op level l q : ℕ) : Type 0 where
  pub left : IsSplitting v op level l
  pub right : IsSplitting v op level q
  pub differ : l ≢ q
  pub tree_there : (at v l).tree < length v.trees
  pub mine : IsOpen v l op
  pub tree : (at v q).tree ≡ (at v l).tree
  pub no_root : (at v q).version.root ≡ false
  pub fence : (at v l).high ≡ Some (at v q).low
  pub reach : (at v q).reach ≡ (at v l).reach
  pub exact : (at v q).reach ≡ (at v q).high
  pub above : (at v l).low < (at v q).low
  pub below : (at v q).low < end_of (at v l).reach
  pub rooted : (at v l).parent ≡ None → (at v l).version.root ≡ true

-- the live nodes that name the node as the one before or as their parent are its next one and its children
pub record NothingLags (nodes : List NodeView) (k : ℕ) : Type 0 where
  pub followers : AreFollowers nodes k (node_at nodes k).next
  pub children : AreChildren nodes k (node_at nodes k)

-- the last split waits for its place in the parent, and those below may be given back
pub record HasSplits (v : ArenaView) (op : ℕ) (s : Splits) : Type 0 where
  pub some : 0 < length s.halves.items
  pub lower : AreReturnable v op s.halves.items (length s.halves.items - 1)
  pub parted : AreParted v op (length s.halves.items - 1) (last_of s).left (last_of s).right

-- and nothing lags behind its halves
pub record HasSplitsNamed (v : ArenaView) (op : ℕ) (s : Splits) : Type 0 where
  pub splits : HasSplits v op s
  pub left : NothingLags v.nodes (last_of s).left
  pub right : NothingLags v.nodes (last_of s).right

-- a border node before its keys are parted: only its next one and the right half name it as the one before, nobody names the right half, and
-- its range in its parent ends at its high fence
pub record IsUnparted (v : ArenaView) (l q : ℕ) : Type 0 where
  pub followers : (k : ℕ) → Follows v.nodes l k → (k ≡ q) ⊎ ((at v l).next ≡ Some k)
  pub children : AreChildren v.nodes l (at v l)
  pub right : NothingLags v.nodes q
  pub reach : (at v l).reach ≡ (at v l).high
  pub stable : All (λ e. ¬ IsUnstable e.held) (at v l).slots
  pub rooted : (at v l).parent ≡ None → (at v l).version.root ≡ true

-- at SplitMove: the key belongs in the walk's border node, which is the left half, and the right half is still empty
pub record IsAtSplitMove (v : ArenaView) (op : ℕ) (task : Task) (prepared : Prepared) (w : Walk) (s : Splits) : Type 0 where
  pub one : length s.halves.items ≡ 1
  pub border : (last_of s).left ≡ w.place.node
  pub above : s.above ≡ None
  pub moved : s.moved ≡ 0
  pub through : GoesThrough v (at v w.place.node).tree w.layer task.key
  pub belongs : Holds (at v w.place.node) (slice_of task.key w.layer)
  pub may : MaySplit v (last_of s).left (last_of s).right op (slice_of task.key w.layer) (mark_of task.key w.layer)
  pub unparted : IsUnparted v (last_of s).left (last_of s).right
  pub orphan : (at v (last_of s).right).parent ≡ None
  pub suffix : prepared.suffix ≡ suffix_of task.key w.layer
  pub ready : IsReady task None prepared

-- at SplitPrev: the node behind the halves still names the left one as the one before
pub record IsAtSplitPrev (v : ArenaView) (op : ℕ) (s : Splits) : Type 0 where
  pub splits : HasSplits v op s
  pub one : length s.halves.items ≡ 1
  pub above : s.above ≡ None
  pub moved : s.moved ≡ 0
  pub orphan : (at v (last_of s).right).parent ≡ None
  pub next : (at v (last_of s).left).next ≡ Some (last_of s).right
  pub some_next : (at v (last_of s).right).next ≢ None
  pub followers : (k : ℕ) → Follows v.nodes (last_of s).left k → (k ≡ (last_of s).right) ⊎ ((at v (last_of s).right).next ≡ Some k)
  pub children : AreChildren v.nodes (last_of s).left (at v (last_of s).left)
  pub right : NothingLags v.nodes (last_of s).right

-- at LockParent, and at RootGrow where the left half has no parent
pub record IsAtLockParent (v : ArenaView) (op : ℕ) (s : Splits) : Type 0 where
  pub named : HasSplitsNamed v op s
  pub above : s.above ≡ None
  pub moved : s.moved ≡ 0
  pub orphan : (at v (last_of s).right).parent ≡ None

pub record IsAtRootGrow (v : ArenaView) (op : ℕ) (s : Splits) : Type 0 where
  pub at_root : IsAtLockParent v op s
  pub parentless : (at v (last_of s).left).parent ≡ None

-- the parent of the left half: the operation holds it, and nothing lags behind it but the right half, which names it and is no child of it yet
pub record IsParent (v : ArenaView) (op level l q p : ℕ) : Type 0 where
  pub held : IsHeld v p op
  pub live : (at v p).version.deleted ≡ false
  pub level_is : (at v p).level ≡ level
  pub child : HasChild (at v p) l
  pub knows : (at v q).parent ≢ None
  pub followers : AreFollowers v.nodes p (at v p).next
  pub children : (k : ℕ) → IsUnder v.nodes p k → (k ≡ q) ⊎ HasChild (at v p) k
  pub reach : (at v p).reach ≡ (at v p).high
  pub rooted : (at v p).parent ≡ None → (at v p).version.root ≡ true

-- with the parent held, which has this number
pub record IsAtParent (v : ArenaView) (op : ℕ) (s : Splits) (p : ℕ) : Type 0 where
  pub named : HasSplitsNamed v op s
  pub above : s.above ≡ Some p
  pub moved : s.moved ≡ 0
  pub parent : IsParent v op (length s.halves.items) (last_of s).left (last_of s).right p

-- at InsertChild it has room for the right half, and at InteriorSplit it is full
pub record IsAtInsertChild (v : ArenaView) (op : ℕ) (s : Splits) : Type 0 where
  pub p : ℕ
  pub at_parent : IsAtParent v op s p
  pub room : length (at v p).separators < 15

pub record IsAtInteriorSplit (v : ArenaView) (op : ℕ) (s : Splits) : Type 0 where
  pub p : ℕ
  pub at_parent : IsAtParent v op s p
  pub full : length (at v p).separators ≡ 15

-- node k is a child of this node, at this place or behind it
pub record IsChildFrom (n : NodeView) (from k : ℕ) : Type 0 where
  pub place : ℕ
  pub since : from ≤ place
  pub in_range : place < length n.children
  pub is : slice_index n.children place ≡ k

-- at Reparent: the children that the right half has got name it as their parent, but for those from the place `moved` on, which name the left one
pub record IsAtReparent (v : ArenaView) (op : ℕ) (s : Splits) : Type 0 where
  pub splits : HasSplits v op s
  pub above : s.above ≡ None
  pub more : s.moved < length (at v (last_of s).right).children
  pub orphan : (at v (last_of s).right).parent ≡ None
  pub followers : AreFollowers v.nodes (last_of s).left (at v (last_of s).left).next
  pub children : (k : ℕ) → IsUnder v.nodes (last_of s).left k → IsChildFrom (at v (last_of s).right) s.moved k ⊎ HasChild (at v (last_of s).left) k
  pub right : NothingLags v.nodes (last_of s).right

-- at Unlock: all may be given back
pub record IsAtUnlockAll (v : ArenaView) (op : ℕ) (s : Splits) : Type 0 where
  pub halves : AreReturnable v op s.halves.items (length s.halves.items)
  pub above : (k : ℕ) → s.above ≡ Some k → MayReturn v op (length s.halves.items) k

-- what is kept of a split by the next phase, from the step on that has parted the keys
abbrev pub KeptSplit : Phase → ArenaView → ℕ → Splits → Type 0
KeptSplit SplitPrev v op s = IsAtSplitPrev v op s
KeptSplit LockParent v op s = IsAtLockParent v op s
KeptSplit InsertChild v op s = IsAtInsertChild v op s
KeptSplit InteriorSplit v op s = IsAtInteriorSplit v op s
KeptSplit Reparent v op s = IsAtReparent v op s
KeptSplit RootGrow v op s = IsAtRootGrow v op s
KeptSplit Unlock v op s = IsAtUnlockAll v op s
KeptSplit _ v op s = ⊥
