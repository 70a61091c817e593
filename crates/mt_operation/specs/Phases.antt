-- The table of phases: a row for each, with all that hangs on an operation's phase alone. What a phase keeps of its operation, and under which condition
-- its step leads where, is told by the crates that have its call.
use Rattle.std.specs.Prelude.{◌≡◌, ℕ, ◌==◌, Bool, true, false, List, [], ◌∷◌, codes}
use Rattle.mt_operation.specs.{declared.walk.Aim.Aim, declared.phase.Phase.Phase}
use Rattle.mt_operation.specs.declared.phase.Phase.TheVariants.{Enter, Pick, Child, Verify, Search, Load, Confirm, Forward, Lock, Judge, Store, Fill, Publish, SplitStart, SplitMove, SplitPrev, LockParent, InsertChild, InteriorSplit, Reparent, RootGrow, MakeLayer, MarkUnstable, Link, MarkLayer, DropKey, LockPrev, LockAbove, Unlink, FixNext, Collapse, CleanLayer, Unlock, Snap, Check, Hop, Done}
use Rattle.mt_operation.specs.declared.walk.Aim.TheVariants as aims

-- What the step does: it goes down to the node of the key, reads there for a get or for a scan, locks the node for a write, judges what the write finds, writes, begins to
-- split the node, splits it, brings right halves up to their parents, makes a layer, takes the pair out, takes the empty node out, takes an empty layer
-- out, or gives the locks back. There is none where the operation has ended. By it hangs what the operation holds, and how far its change is.
pub data Kind : Type 0 where
  Descends : Kind
  Reads : Kind
  Scans : Kind
  Locks : Kind
  Judges : Kind
  Writes : Kind
  Begins : Kind
  Splits : Kind
  Climbs : Kind
  Layers : Kind
  Drops : Kind
  Unlinks : Kind
  Cleans : Kind
  Returns : Kind
  Ends : Kind

-- which nodes the operation holds: none; its border node; those of its splits; its border node and those of its removal; or those of its splits where it has
-- split any, and else its border node and those of its removal
pub data Holding : Type 0 where
  Free : Holding
  Border : Holding
  Parts : Holding
  Emptied : Holding
  Last : Holding

abbrev pub holds_of : Kind → Holding
holds_of Judges = Border
holds_of Writes = Border
holds_of Begins = Border
holds_of Layers = Border
holds_of Drops = Border
holds_of Unlinks = Emptied
holds_of Cleans = Border
holds_of Splits = Parts
holds_of Climbs = Parts
holds_of Returns = Last
holds_of _ = Free

-- whether its change is still to come, has all made ready for it, or was placed or found to be none; or whether it may be either, on its way to its key or
-- back to a link
pub data Change : Type 0 where
  ToCome : Change
  Ready : Change
  Either : Change
  Settled : Change

abbrev pub change_at : Kind → Change
change_at Writes = Ready
change_at Begins = Ready
change_at Splits = Ready
change_at Climbs = Settled
change_at Drops = Ready
change_at Unlinks = Settled
change_at Cleans = Settled
change_at Returns = Settled
change_at Ends = Settled
change_at Reads = ToCome
change_at Scans = ToCome
change_at Layers = ToCome
change_at _ = Either

-- for what the step may have to wait: for nothing; for the mark of the tree's root, of the child, of the walk's own node, or of the next one; for the walk's
-- slot, or for one of those that are read, where that is unstable; or for the lock of its own node, of the parent of its splits, of the node before its own, of its own node's parent, or of the root of the layer below
pub data Waiting : Type 0 where
  Never : Waiting
  RootMark : Waiting
  ChildMark : Waiting
  OwnMark : Waiting
  NextMark : Waiting
  OwnSlot : Waiting
  ReadSlot : Waiting
  OwnLock : Waiting
  ParentLock : Waiting
  BeforeLock : Waiting
  AboveLock : Waiting
  BelowLock : Waiting

-- what comes of the operation where memory is refused to the step: it takes none; it ends; or it stands, and the step can be tried again
pub data Growth : Type 0 where
  TakesNone : Growth
  EndsForWant : Growth
  StandsForWant : Growth

-- What hangs on a phase alone: its number and its name; what its step does; its rank, which is how many steps of its kind and of those before it an operation
-- makes at most since it took the lock of its border node, from level to level anew; for what it waits; what a refused growth does; and where it leads.
pub record PhaseRow : Type 0 where
  pub number : ℕ
  pub name : List ℕ
  pub kind : Kind
  pub rank : ℕ
  pub waits : Waiting
  pub grows : Growth
  pub next : List Phase

abbrev line : ℕ → List ℕ → Kind → ℕ → Waiting → Growth → List Phase → PhaseRow
line number name kind rank waits grows next = record { number = number; name = name; kind = kind; rank = rank; waits = waits; grows = grows; next = next }

abbrev pub row : Phase → PhaseRow
row Enter = line 0 (codes "enter") Descends 0 RootMark TakesNone (Enter ∷ Pick ∷ Search ∷ Lock ∷ Snap ∷ [])
row Pick = line 1 (codes "pick") Descends 0 Never TakesNone (Child ∷ [])
row Child = line 2 (codes "child") Descends 0 ChildMark TakesNone (Verify ∷ [])
row Verify = line 3 (codes "verify") Descends 0 OwnMark TakesNone (Enter ∷ Pick ∷ Search ∷ Lock ∷ Snap ∷ [])
row Search = line 4 (codes "search") Reads 0 Never TakesNone (Load ∷ Confirm ∷ [])
row Load = line 5 (codes "load") Reads 0 OwnSlot EndsForWant (Confirm ∷ Done ∷ [])
row Confirm = line 6 (codes "confirm") Reads 0 OwnMark TakesNone (Done ∷ Enter ∷ Forward ∷ [])
row Forward = line 7 (codes "forward") Descends 0 NextMark TakesNone (Enter ∷ Forward ∷ Search ∷ Lock ∷ Snap ∷ [])
row Lock = line 8 (codes "lock") Locks 0 OwnLock TakesNone (Enter ∷ Forward ∷ Judge ∷ CleanLayer ∷ [])
row Judge = line 9 (codes "judge") Judges 1 Never EndsForWant (Store ∷ Fill ∷ SplitStart ∷ MakeLayer ∷ DropKey ∷ Enter ∷ Done ∷ [])
row Store = line 10 (codes "store") Writes 2 Never TakesNone (Unlock ∷ [])
row Fill = line 36 (codes "fill") Writes 2 Never TakesNone (Publish ∷ [])
row Publish = line 11 (codes "publish") Writes 3 Never TakesNone (Unlock ∷ [])
row SplitStart = line 12 (codes "splitstart") Begins 2 Never EndsForWant (SplitMove ∷ Done ∷ [])
row SplitMove = line 13 (codes "splitmove") Splits 3 Never TakesNone (SplitPrev ∷ LockParent ∷ [])
row SplitPrev = line 14 (codes "splitprev") Climbs 4 Never TakesNone (LockParent ∷ [])
row LockParent = line 15 (codes "lockparent") Climbs 5 ParentLock TakesNone (InsertChild ∷ InteriorSplit ∷ RootGrow ∷ [])
row InsertChild = line 16 (codes "insertchild") Climbs 6 Never TakesNone (Unlock ∷ [])
row InteriorSplit = line 17 (codes "interiorsplit") Climbs 6 Never StandsForWant (Reparent ∷ [])
row Reparent = line 18 (codes "reparent") Climbs 5 Never TakesNone (Reparent ∷ LockParent ∷ [])
row RootGrow = line 19 (codes "rootgrow") Climbs 6 Never StandsForWant (Unlock ∷ [])
row MakeLayer = line 20 (codes "makelayer") Layers 2 Never EndsForWant (MarkUnstable ∷ Done ∷ [])
row MarkUnstable = line 21 (codes "markunstable") Layers 3 Never TakesNone (Link ∷ [])
row Link = line 22 (codes "link") Layers 4 Never TakesNone (MarkLayer ∷ [])
row MarkLayer = line 23 (codes "marklayer") Layers 5 Never TakesNone (Unlock ∷ [])
row DropKey = line 24 (codes "dropkey") Drops 2 Never TakesNone (LockPrev ∷ Unlock ∷ [])
row LockPrev = line 25 (codes "lockprev") Unlinks 3 BeforeLock TakesNone (LockAbove ∷ [])
row LockAbove = line 26 (codes "lockabove") Unlinks 4 AboveLock TakesNone (Unlink ∷ Unlock ∷ [])
row Unlink = line 27 (codes "unlink") Unlinks 5 Never TakesNone (FixNext ∷ Collapse ∷ Unlock ∷ [])
row FixNext = line 28 (codes "fixnext") Unlinks 6 Never TakesNone (Collapse ∷ Unlock ∷ [])
row Collapse = line 29 (codes "collapse") Unlinks 7 Never TakesNone (Unlock ∷ [])
row CleanLayer = line 30 (codes "cleanlayer") Cleans 2 BelowLock TakesNone (LockPrev ∷ Unlock ∷ [])
row Unlock = line 31 (codes "unlock") Returns 8 Never TakesNone (Enter ∷ Done ∷ [])
row Snap = line 32 (codes "snap") Scans 0 ReadSlot EndsForWant (Check ∷ Done ∷ [])
row Check = line 33 (codes "check") Scans 0 OwnMark EndsForWant (Hop ∷ Enter ∷ Forward ∷ Done ∷ [])
row Hop = line 34 (codes "hop") Scans 0 NextMark TakesNone (Snap ∷ Enter ∷ [])
row Done = line 35 (codes "done") Ends 0 Never TakesNone []

-- those that have a step
abbrev pub steps : List Phase
steps = Enter ∷ Pick ∷ Child ∷ Verify ∷ Search ∷ Load ∷ Confirm ∷ Forward ∷ Lock ∷ Judge ∷ Store ∷ Fill ∷ Publish
    ∷ SplitStart ∷ SplitMove ∷ SplitPrev ∷ LockParent ∷ InsertChild ∷ InteriorSplit ∷ Reparent ∷ RootGrow
    ∷ MakeLayer ∷ MarkUnstable ∷ Link ∷ MarkLayer ∷ DropKey ∷ LockPrev ∷ LockAbove ∷ Unlink ∷ FixNext ∷ Collapse ∷ CleanLayer ∷ Unlock
    ∷ Snap ∷ Check ∷ Hop ∷ []

-- a phase's name, as it is written
abbrev pub name_of : Phase → List ℕ
name_of p = (row p).name

-- one of these phases
abbrev IsHere : Bool → Type 0 → Type 0
IsHere true rest = Unit {0}
IsHere false rest = rest

abbrev IsOneOf : Phase → List Phase → Type 0
IsOneOf q [] = ⊥
IsOneOf q (p ∷ phases) = IsHere ((row p).number == (row q).number) (IsOneOf q phases)

-- the step of a phase may lead to this one
abbrev pub MayFollow : Phase → Phase → Type 0
MayFollow p q = IsOneOf q (row p).next

-- no step is left
abbrev pub ends : Kind → Bool
ends Ends = true
ends _ = false

abbrev pub is_done : Phase → Bool
is_done p = ends (row p).kind

-- the step is one of a climb; it makes a layer; it goes down; it is no look of an operation that holds nothing
abbrev pub IsClimbKind : Kind → Type 0
IsClimbKind Climbs = Unit {0}
IsClimbKind _ = ⊥

abbrev pub IsClimb : Phase → Type 0
IsClimb p = IsClimbKind (row p).kind

abbrev pub IsLayerKind : Kind → Type 0
IsLayerKind Layers = Unit {0}
IsLayerKind _ = ⊥

abbrev pub IsLayerPhase : Phase → Type 0
IsLayerPhase p = IsLayerKind (row p).kind

-- it takes an empty node or an empty layer out
abbrev pub IsRemovalKind : Kind → Type 0
IsRemovalKind Unlinks = Unit {0}
IsRemovalKind Cleans = Unit {0}
IsRemovalKind _ = ⊥

abbrev pub IsRemovalPhase : Phase → Type 0
IsRemovalPhase p = IsRemovalKind (row p).kind

abbrev pub IsDescentKind : Kind → Type 0
IsDescentKind Descends = Unit {0}
IsDescentKind _ = ⊥

abbrev pub IsDescent : Phase → Type 0
IsDescent p = IsDescentKind (row p).kind

abbrev pub IsNoLookKind : Kind → Type 0
IsNoLookKind Descends = ⊥
IsNoLookKind Reads = ⊥
IsNoLookKind Scans = ⊥
IsNoLookKind _ = Unit {0}

abbrev pub IsNoLook : Phase → Type 0
IsNoLook p = IsNoLookKind (row p).kind

-- a phase of gets alone, of scans alone, of writes alone, or of all
abbrev pub FitsAim : Kind → Aim → Type 0
FitsAim Descends aim = Unit {0}
FitsAim Ends aim = Unit {0}
FitsAim Reads aim = aim ≡ aims.Read
FitsAim Scans aim = aim ≡ aims.Scan
FitsAim _ aim = aim ≡ aims.Write

abbrev pub IsOfKind : Phase → Aim → Type 0
IsOfKind p aim = FitsAim (row p).kind aim

-- all is made ready for its write
abbrev pub is_ready : Change → Bool
is_ready Ready = true
is_ready _ = false

abbrev pub is_prepared : Phase → Bool
is_prepared p = is_ready (change_at (row p).kind)

-- its change was not placed
abbrev pub is_to_come : Change → Bool
is_to_come ToCome = true
is_to_come Ready = true
is_to_come _ = false

abbrev pub is_unplaced : Phase → Bool
is_unplaced p = is_to_come (change_at (row p).kind)

-- it may have splits
abbrev pub may_be_parts : Holding → Bool
may_be_parts Parts = true
may_be_parts Last = true
may_be_parts _ = false

abbrev pub has_splits : Phase → Bool
has_splits p = may_be_parts (holds_of (row p).kind)

-- it stands where memory is refused
abbrev IsStandingGrowth : Growth → Type 0
IsStandingGrowth StandsForWant = Unit {0}
IsStandingGrowth _ = ⊥

abbrev pub IsToGrow : Phase → Type 0
IsToGrow p = IsStandingGrowth (row p).grows
