-- What the calls on a slot promise, and what each leaves at each of its moments.
use Rattle.std.specs.{Prelude.{◌≡◌, ◌⊎◌, ℕ, ◌≤◌, Bool, IsTrue, List, [], ◌∷◌, length, drop, Option, Some, None, Result, MatchResult}, Option.option_map}
use Rattle.std.specs.List.{slice_get}
use Rattle.mt_disk.specs.Disk.{DiskState, LeavesOnly, IsDurable, GoesUp, synced}
use Rattle.mt_checkpoint.specs.{declared.checkpoint.Checkpoint.Checkpoint, declared.fault.ReadFault.ReadFault}
use Rattle.mt_checkpoint.specs.Checkpoints.{Walk, IsWalkOrNone, walk_of, HasWalk, Has, In, IsOneOf}
use Rattle.mt_checkpoint.specs.declared.fault.ReadFault.TheVariants as reads

-- ---- steps of the calls

-- what a disk may be after a call that failed before its sync, or after it
abbrev pub IsSyncedOrSame : DiskState → DiskState → Type 0
IsSyncedOrSame old new = (new ≡ old) ⊎ (new ≡ synced old)

-- a disk was synced, and this is how long its file is, and its first byte
pub record IsGateOf {D : Type 0} (is_honest : D → Bool) (state : D → DiskState) (old new : D) (r : ℕ × Option ℕ) : Type 0 where
  pub some : (gate : ℕ) → r.1 ≡ Some gate → 1 ≤ r.0
  pub moves : IsTrue (is_honest old) → state new ≡ synced (state old)
  pub len : IsTrue (is_honest old) → r.0 ≡ length (state old).image
  pub gate : IsTrue (is_honest old) → r.1 ≡ slice_get (state old).image 0

-- the gate is closed, and all is durable
pub record ClosesGate (old new : DiskState) : Type 0 where
  pub image : new.image ≡ 0 ∷ drop 1 old.image
  pub durable : IsDurable new

-- a checkpoint stands there, and all is durable
pub record HasDurably (w : Walk) (s : DiskState) : Type 0 where
  pub has : HasWalk w s.image
  pub durable : IsDurable s

-- what was read is one of what might be left, and from now on a crash leaves that alone
pub record SettlesOnSlot (x : Option Walk) (may : List (Option Walk)) (first new : DiskState) : Type 0 where
  pub among : In x may
  pub leaves : LeavesOnly (IsOneOf may) first new
  pub now : LeavesOnly (IsOneOf (x ∷ [])) new new

-- ---- the calls

module _ {D : Type 0} (is_honest : D → Bool) (state : D → DiskState) (failures : D → ℕ) where
  -- over an honest disk: at each moment a crash leaves what it might before, or none
  abbrev pub LeavesOrNone : D → D → Type 0
  LeavesOrNone old new = IsTrue (is_honest old) → (may : List (Option Walk)) (first : DiskState)
      → LeavesOnly (IsOneOf may) first (state old) → LeavesOnly (IsOneOf (None ∷ may)) first (state new)

  -- what it might before, and nothing else
  abbrev pub StillLeaves : D → D → Type 0
  StillLeaves old new = IsTrue (is_honest old) → (may : List (Option Walk)) (first : DiskState)
      → LeavesOnly (IsOneOf may) first (state old) → LeavesOnly (IsOneOf may) first (state new)

  -- a slot was read, and has this walk or none
  pub record HasRead (old new : D) (x : Option Walk) : Type 0 where
    pub format : IsWalkOrNone x
    pub tells : IsTrue (is_honest old) → Has x (state old).image
    pub settles : IsTrue (is_honest old) → (may : List (Option Walk)) (first : DiskState) → LeavesOnly (IsOneOf may) first (state old)
        → SettlesOnSlot x may first (state new)
    pub count : failures new ≡ failures old
    pub honest : is_honest new ≡ is_honest old

  -- and that is what its checkpoint says
  abbrev pub ReadSlot : D → D → Option Checkpoint → Type 0
  ReadSlot old new x = HasRead old new (option_map walk_of x)

-- the count of failures goes up where the disk failed, and nowhere else
abbrev pub CountsFault : ReadFault → ℕ → ℕ → Type 0
CountsFault reads.Device old new = GoesUp old new
CountsFault reads.Memory old new = new ≡ old

abbrev pub CountsReads : {T : Type 0} → Result T ReadFault → ℕ → ℕ → Type 0
CountsReads result old new = MatchResult result (λ _. new ≡ old) (λ e. CountsFault e old new)

-- it was not read
pub record FailsToRead {D : Type 0} (is_honest : D → Bool) (state : D → DiskState) (failures : D → ℕ) (old new : D) (e : ReadFault) : Type 0 where
  pub leaves : StillLeaves is_honest state failures old new
  pub count : CountsFault e (failures old) (failures new)
  pub honest : is_honest new ≡ is_honest old
