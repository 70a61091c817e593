-- Which nodes a step may change, by its phase.
use Rattle.std.specs.Prelude.{◌≡◌, ℕ, ◌<◌, ◌⊎◌, Bool, true, false, Some, None, length, slice_index}
use Rattle.mt_arena.specs.{NodeView.NodeView, Edits.pointed, Arena.ArenaView, Accesses.at}
use Rattle.mt_operation.specs.declared.phase.Phase.{Phase}
use Rattle.mt_operation.specs.declared.phase.Phase.TheVariants.{SplitStart, SplitPrev, InteriorSplit, Reparent, RootGrow, MakeLayer, FixNext}
use Rattle.mt_operation.specs.{Operations.OperationView, Phases.{Waiting, OwnLock, ParentLock, BeforeLock, AboveLock, BelowLock, row}}
use Rattle.mt_insert.specs.KeptSplits.{last_half}

-- the step is to lock the node for which it may have to wait
abbrev pub is_for_lock : Waiting → Bool
is_for_lock OwnLock = true
is_for_lock ParentLock = true
is_for_lock BeforeLock = true
is_for_lock AboveLock = true
is_for_lock BelowLock = true
is_for_lock _ = false

abbrev pub locks_next : Phase → Bool
locks_next p = is_for_lock (row p).waits

-- operation o holds a node before its step, or it takes the lock and holds it after
abbrev pub HoldsOrLocks : Phase → ℕ → NodeView → NodeView → Type 0
HoldsOrLocks p o n m = (n.holder ≡ Some o) ⊎ ((locks_next p ≡ true) × (m.holder ≡ Some o))

-- The node behind a new right half names that one as the one before it. The node behind one that was taken out names its left neighbour so. A child of a new
-- right half names that one as its parent. Nothing else in the node changes, and no other step does this.
abbrev pub NamesAnew : Phase → OperationView → ArenaView → ℕ → NodeView → Type 0
NamesAnew SplitPrev op v k m = let right = (last_half op.splits).right in ((at v right).next ≡ Some k) × (m ≡ pointed (at v k) (Some right) (at v k).parent)
NamesAnew FixNext op v k m = (left : ℕ) × (op.removal.left ≡ Some left) × ((at v left).next ≡ Some k) × (m ≡ pointed (at v k) (Some left) (at v k).parent)
NamesAnew Reparent op v k m = let right = (last_half op.splits).right in (slice_index (at v right).children op.splits.moved ≡ k) × (m ≡ pointed (at v k) (at v k).previous (Some right))
NamesAnew _ op v k m = ⊥

-- the phases whose step makes a node
abbrev pub MakesNode : Phase → Type 0
MakesNode SplitStart = Unit {0}
MakesNode InteriorSplit = Unit {0}
MakesNode RootGrow = Unit {0}
MakesNode MakeLayer = Unit {0}
MakesNode _ = ⊥

-- a node that was taken out and that nobody held, and a live one in its place: the step gave the place out
pub record IsGivenAnew (n m : NodeView) : Type 0 where
  pub out : n.version.deleted ≡ true
  pub free : n.holder ≡ None
  pub live : m.version.deleted ≡ false

-- What node k may become by a step of operation o from a phase: it stays; or the operation holds it or locks it; or it names another one; or its place
-- is given out to a node that the step makes.
abbrev pub MayBecome : Phase → OperationView → ℕ → ArenaView → ℕ → NodeView → Type 0
MayBecome p op o v k m = (m ≡ at v k) ⊎ HoldsOrLocks p o (at v k) m ⊎ NamesAnew p op v k m ⊎ (MakesNode p × IsGivenAnew (at v k) m)

-- of the nodes that were there, the next step of operation o changes none but so
abbrev pub Touches : OperationView → ℕ → ArenaView → ArenaView → Type 0
Touches op o old new = (k : ℕ) → k < length old.nodes → MayBecome op.phase op o old k (at new k)
