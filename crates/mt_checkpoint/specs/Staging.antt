-- What the private steps of a writer's calls leave; no public contract cites it.
use Rattle.std.specs.Prelude.{◌≡◌, ℕ, Bool, IsTrue, List, [], ◌∷◌, Result, OnOk}
use Rattle.mt_rows.specs.declared.record.TenantPair.{TenantPair}
use Rattle.mt_disk.specs.{Disk.{DiskState, LeavesOnly, GoesUp, CountsFailure}, declared.disk.DeviceFailed.DeviceFailed}
use Rattle.mt_digests.specs.{declared.file_digest.FileDigest.FileDigest, Digests.digest_of}
use Rattle.mt_checkpoint.specs.{declared.slot.Writer.Writer, declared.fault.FaultCause.FaultCause}
use Rattle.mt_checkpoint.specs.{Faults.CountsCause, Checkpoints.{IsWalk, walk_bytes, IsClosed, IsBehindGate, IsShutIn, IsStaged}}
use Rattle.mt_checkpoint.specs.Writes.{IsWriting, LeavesClosed, walk_with}

module _ {D : Type 0} (is_honest : D → Bool) (state : D → DiskState) (failures : D → ℕ) where
  -- a disk was cut after its closed gate, or that failed
  pub record CutsBehind (old : D) (cut : Result (Unit {0}) DeviceFailed) (new : D) : Type 0 where
    pub behind : IsTrue (is_honest old) → IsShutIn (state old) → OnOk cut (IsBehindGate [] (state new))
    pub leaves : IsTrue (is_honest old) → IsShutIn (state old) → LeavesOnly IsClosed (state old) (state new)
    pub count : CountsFailure cut (failures old) (failures new)
    pub honest : is_honest new ≡ is_honest old

  -- a disk failed, and then its slot was cleared, or that failed too
  pub record ClearsAfter (old new : D) : Type 0 where
    pub failed : ℕ
    pub cut : Result (Unit {0}) DeviceFailed
    pub up : GoesUp (failures old) failed
    pub count : CountsFailure cut failed (failures new)
    pub image : IsTrue (is_honest old) → OnOk cut ((state new).image ≡ 0 ∷ [])

  -- a call on a writer was stopped, and its gate stays closed
  pub record StopsOn (old new : Writer D) (cause : FaultCause) : Type 0 where
    pub leaves : LeavesClosed is_honest state failures old new.disk
    pub shut : IsTrue (is_honest old.disk) → (pairs : List TenantPair) → IsWriting is_honest state failures pairs old → IsShutIn (state new.disk)
    pub count : CountsCause cause (failures old.disk) (failures new.disk)
    pub honest : is_honest new.disk ≡ is_honest old.disk

  -- the walk that a writer has stands behind the closed gate, and this is its digest
  pub record StagesWalk (old : Writer D) (last : ℕ) (new : Writer D) (digest : FileDigest) : Type 0 where
    pub walk : IsTrue (is_honest old.disk) → (pairs : List TenantPair) → IsWriting is_honest state failures pairs old → IsWalk (walk_with is_honest state failures old last pairs)
    pub staged : IsTrue (is_honest old.disk) → (pairs : List TenantPair) → IsWriting is_honest state failures pairs old
        → IsStaged (walk_bytes 2 (walk_with is_honest state failures old last pairs)) (state new.disk)
    pub told : IsTrue (is_honest old.disk) → (pairs : List TenantPair) → IsWriting is_honest state failures pairs old
        → digest ≡ digest_of (walk_bytes 2 (walk_with is_honest state failures old last pairs))
    pub leaves : LeavesClosed is_honest state failures old new.disk
    pub count : failures new.disk ≡ failures old.disk
    pub honest : is_honest new.disk ≡ is_honest old.disk
