-- What the calls of a writer promise, and what each leaves at each of its moments.
use Rattle.std.specs.Prelude.{◌≡◌, ℕ, ◌≤◌, ◌<◌, ◌^◌, Bool, IsTrue, List, [], ◌∷◌, ◌++◌, length, Some, None, Result, OnOk}
use Rattle.std.specs.List.{flat_map}
use Rattle.mt_rows.specs.{Rows.Bytes, declared.record.TenantPair.TenantPair}
use Rattle.mt_disk.specs.{Disk.{debt, DiskState, LeavesOnly, GoesUp, CountsFailure}, declared.disk.DeviceFailed.DeviceFailed}
use Rattle.sha2.specs.Hashers.{Holds256}
use Rattle.mt_digests.specs.{declared.file_digest.FileDigest.FileDigest, Digests.digest_of}
use Rattle.mt_checkpoint.specs.{declared.slot.Writer.Writer, declared.fault.WriteFault.WriteFault, declared.fault.FaultCause.FaultCause}
use Rattle.mt_checkpoint.specs.{Format.{head_bytes, entry_bytes}, Seen.HasSeen, Faults.{CountsCause, IsRefused}, Slots.{HasDurably, LeavesOrNone}}
use Rattle.mt_checkpoint.specs.Checkpoints.{Walk, IsWalk, Rise, walk_bytes, IsClosed, IsOneOf, IsBehindGate}
use Rattle.mt_checkpoint.specs.declared.fault.FaultCause.TheVariants.{Device, Memory, NotAWalk, NotReadBack}

-- the bytes of a walk so far: its head and its entries
abbrev pub text_with : ℕ → List TenantPair → Bytes
text_with first pairs = head_bytes 2 first ++ flat_map (entry_bytes 2) pairs

module _ {D : Type 0} (is_honest : D → Bool) (state : D → DiskState) (failures : D → ℕ) where
  -- A writer has these pairs so far, in format 2. It knows their last key, their greatest stamp and the hash of their bytes. Less than 4 MiB aren't durable.
  pub record IsWriting (pairs : List TenantPair) (w : Writer D) : Type 0 where
    pub text : IsBehindGate (text_with w.first pairs) (state w.disk)
    pub end : w.end ≡ length (state w.disk).image
    pub seen : HasSeen pairs w.seen
    pub hashed : Holds256 w.hash (text_with w.first pairs)
    pub owed : debt (state w.disk).now ≤ w.owed
    pub bounded : w.owed < 2 ^ 22

  -- what a writer that has some pairs leaves: a closed gate
  abbrev pub LeavesClosed : Writer D → D → Type 0
  LeavesClosed old new = IsTrue (is_honest old.disk) → (pairs : List TenantPair) → IsWriting pairs old → LeavesOnly IsClosed (state old.disk) (state new)

  -- the walk that ends with what a writer has
  abbrev pub walk_with : Writer D → ℕ → List TenantPair → Walk
  walk_with w last pairs = record { first = w.first; last = last; pairs = pairs }

  -- none, or this walk's checkpoint whole
  abbrev pub LeavesNoneOrThis : Writer D → ℕ → D → Type 0
  LeavesNoneOrThis old last new = IsTrue (is_honest old.disk) → (pairs : List TenantPair) → IsWriting pairs old → IsWalk (walk_with old last pairs)
      → LeavesOnly (IsOneOf (None ∷ Some (walk_with old last pairs) ∷ [])) (state old.disk) (state new)

  -- ---- giving up

  -- A checkpoint was given up when its disk had failed so often. The file was cut to its closed gate alone, or that failed.
  pub record GivesUp (old : Writer D) (failed : ℕ) (cut : Result (Unit {0}) DeviceFailed) (new : D) : Type 0 where
    pub image : IsTrue (is_honest old.disk) → (pairs : List TenantPair) → IsWriting pairs old → OnOk cut ((state new).image ≡ 0 ∷ [])
    pub count : CountsFailure cut failed (failures new)
    pub honest : is_honest new ≡ is_honest old.disk

  -- a call was stopped by this fault, and gave the checkpoint up; that the cut has failed too is not told
  pub record Stops (old : Writer D) (e : WriteFault D) : Type 0 where
    pub failed : ℕ
    pub cut : Result (Unit {0}) DeviceFailed
    pub cause : CountsCause e.cause (failures old.disk) failed
    pub gives_up : GivesUp old failed cut e.disk

  -- ---- the calls

  -- a checkpoint was begun
  pub record Begun (old : D) (first : ℕ) (w : Writer D) : Type 0 where
    pub first_is : w.first ≡ first
    pub writing : IsTrue (is_honest old) → IsWriting [] w
    pub leaves : LeavesOrNone is_honest state failures old w.disk
    pub count : failures w.disk ≡ failures old
    pub honest : is_honest w.disk ≡ is_honest old

  pub record FailsToBegin (old new : D) : Type 0 where
    pub leaves : LeavesOrNone is_honest state failures old new
    pub count : GoesUp (failures old) (failures new)
    pub honest : is_honest new ≡ is_honest old

  -- pairs were added
  pub record Added (old : Writer D) (pairs : List TenantPair) (new : Writer D) : Type 0 where
    pub first_is : new.first ≡ old.first
    pub writing : IsTrue (is_honest old.disk) → (before : List TenantPair) → IsWriting before old → IsWriting (before ++ pairs) new
    pub leaves : LeavesClosed old new.disk
    pub count : failures new.disk ≡ failures old.disk
    pub honest : is_honest new.disk ≡ is_honest old.disk

  pub record FailsToAdd (old : Writer D) (e : WriteFault D) : Type 0 where
    pub stops : Stops old e
    pub leaves : LeavesClosed old e.disk

  -- only pairs that don't rise after those before are refused as no walk
  abbrev pub RefusesPairs : Writer D → List TenantPair → FaultCause → Type 0
  RefusesPairs old pairs NotAWalk = IsTrue (is_honest old.disk) → (before : List TenantPair) → IsWriting before old → Rise (before ++ pairs) → ⊥
  RefusesPairs old pairs NotReadBack = ⊥
  RefusesPairs old pairs Device = Unit {0}
  RefusesPairs old pairs Memory = Unit {0}

  -- it was ended: the file is an open gate and the walk in format 2, and nothing else
  pub record Ended (old : Writer D) (last : ℕ) (new : D) : Type 0 where
    pub walk : IsTrue (is_honest old.disk) → (pairs : List TenantPair) → IsWriting pairs old → IsWalk (walk_with old last pairs)
    pub has : IsTrue (is_honest old.disk) → (pairs : List TenantPair) → IsWriting pairs old → IsWalk (walk_with old last pairs)
        → HasDurably (walk_with old last pairs) (state new)
    pub image : IsTrue (is_honest old.disk) → (pairs : List TenantPair) → IsWriting pairs old → (state new).image ≡ 1 ∷ walk_bytes 2 (walk_with old last pairs)
    pub leaves : LeavesNoneOrThis old last new
    pub count : failures new ≡ failures old.disk
    pub honest : is_honest new ≡ is_honest old.disk

  -- the digest of the walk in format 2
  abbrev pub TellsDigest : Writer D → ℕ → FileDigest → Type 0
  TellsDigest old last digest =
      IsTrue (is_honest old.disk) → (pairs : List TenantPair) → IsWriting pairs old → digest ≡ digest_of (walk_bytes 2 (walk_with old last pairs))

  -- It was not. Only while the gate was opened may it have become whole.
  pub record FailsToEnd (old : Writer D) (last : ℕ) (e : WriteFault D) : Type 0 where
    pub stops : Stops old e
    pub leaves : LeavesNoneOrThis old last e.disk
    pub closed : IsRefused e.cause → LeavesClosed old e.disk

  -- Only what is no walk is refused as none. What was written on a disk that keeps the rules is read back.
  abbrev pub RefusesEnd : Writer D → ℕ → FaultCause → Type 0
  RefusesEnd old last NotAWalk = IsTrue (is_honest old.disk) → (pairs : List TenantPair) → IsWriting pairs old → IsWalk (walk_with old last pairs) → ⊥
  RefusesEnd old last NotReadBack = IsTrue (is_honest old.disk) → (pairs : List TenantPair) → IsWriting pairs old → ⊥
  RefusesEnd old last Device = Unit {0}
  RefusesEnd old last Memory = Unit {0}
