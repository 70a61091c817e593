-- What an operation remembers is there, or was taken out after its birth: so it is in no place that may be given out while it is open.
use Rattle.std.specs.Prelude.{◌≡◌, ℕ, ◌+◌, ◌<◌, ◌≤◌, ◌⊎◌, false, length, Some}
use Rattle.mt_arena.specs.{Idle.{RetiredPlaces, AreRetired}, Arena.{ArenaView, IsArena}, Accesses.at, Given.{IsNodeOutFrom, IsTreeOutFrom, IsNamedLate, AreOutUpTo}}
use Rattle.mt_operation.specs.{declared.phase.Phase.Phase, declared.phase.Phase.TheVariants.{Check, Hop}, declared.walk.Walk.Walk, declared.scan.Stop.Stop}
use Rattle.mt_operation.specs.{declared.operation.Operation.Operation, Phases.{Kind, row}}
use Rattle.mt_descent.specs.KeptBack.{RemembersKept, RetiresAfter}
use Rattle.mt_scan.specs.Remembered as scans
use Rattle.mt_operation.specs.Phases as kinds

-- what the arena keeps of all its nodes and trees, and of its idle places
pub record ArenaFacts (v : ArenaView) : Type 0 where
  pub arena : IsArena v.nodes v.trees
  pub retired : AreRetired v.nodes v.trees v.retired
  pub named : IsNamedLate v.nodes v.trees v.retired

-- all that a scan remembers at Check or Hop, by its birth
pub record ScanRemembersKept (birth : ℕ) (v : ArenaView) (phase : Phase) (w : Walk) (stop : Stop) : Type 0 where
  pub nodes : (k : ℕ) → scans.RemembersNode phase w stop k → IsNodeOutFrom (birth + 1) v.retired k
  pub trees : (t : ℕ) → scans.RemembersTree phase w stop t → IsTreeOutFrom (birth + 1) v.retired t

-- the same of an operation that scans, and of one that holds nothing; of one that holds nodes its walk tells nothing more
abbrev pub IsScanBack : Phase → ArenaView → Operation → Type 0
IsScanBack Check v op = ScanRemembersKept op.birth v Check op.walk op.scan.stop
IsScanBack Hop v op = ScanRemembersKept op.birth v Hop op.walk op.scan.stop
IsScanBack _ v op = RemembersKept op.birth v op.walk

abbrev pub IsWalkBack : Kind → Phase → ArenaView → Operation → Type 0
IsWalkBack kinds.Descends p v op = RemembersKept op.birth v op.walk
IsWalkBack kinds.Locks p v op = RemembersKept op.birth v op.walk
IsWalkBack kinds.Reads p v op = RemembersKept op.birth v op.walk
IsWalkBack kinds.Scans p v op = IsScanBack p v op
IsWalkBack _ p v op = Unit {0}

abbrev pub IsBackAt : Phase → ArenaView → Operation → Type 0
IsBackAt p v op = IsWalkBack (row p).kind p v op

-- the node and its tree are there, or were taken out after the birth
abbrev pub IsHeldBack : ℕ → ArenaView → ℕ → Type 0
IsHeldBack birth v k = IsNodeOutFrom (birth + 1) v.retired k × IsTreeOutFrom (birth + 1) v.retired (at v k).tree

-- so are all that an operation remembers: by its walk, the nodes that it holds with their trees, and the tree whose link it goes to take out
pub record IsKeptBack (v : ArenaView) (o : ℕ) (op : Operation) : Type 0 where
  pub walk : IsBackAt op.walk.phase v op
  pub held : (k : ℕ) → k < length v.nodes → (at v k).holder ≡ Some o → IsHeldBack op.birth v k
  pub cleans : (t : ℕ) → op.removal.cleans ≡ Some t → IsTreeOutFrom (op.birth + 1) v.retired t

-- what the next step takes out is listed with its number, so after the birth of each operation that is open
pub record Retires (steps : ℕ) (old new : RetiredPlaces) : Type 0 where
  pub upto : AreOutUpTo (steps + 1) new
  pub after : (birth : ℕ) → birth ≤ steps → RetiresAfter birth old new

-- each node that operation o holds after a step was there, and o held it or it was live; or it is live after the step
abbrev pub TakesLive : ℕ → ArenaView → ArenaView → Type 0
TakesLive o old new = (k : ℕ) → k < length new.nodes → (at new k).holder ≡ Some o →
    ((k < length old.nodes) × (((at old k).holder ≡ Some o) ⊎ ((at old k).version.deleted ≡ false)))
    ⊎ ((at new k).version.deleted ≡ false)
