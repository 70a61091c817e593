-- What the header of a numbered file tells. Nothing else of the file is read.
use Rattle.std.specs.Prelude.{◌≡◌, ℕ, ◌<◌, Bool, IsTrue, List, Option, Some, None}
use Rattle.mt_disk.specs.Disk.{DiskState, GoesUp, synced}
use Rattle.mt_gates.specs.Gates.{IsSyncedOrSame}
use Rattle.mt_log_generations.specs.{declared.header.Header.Header, Headers.IsLog}
use Rattle.mt_recover.specs.{declared.resuming.LogSlot.LogSlot, declared.resuming.LogSlot.TheVariants.{Closed, Away}}

-- a number tells the generation of a file's log; 0 tells that it has none
pub record TellsGeneration (told : ℕ) (image : List ℕ) : Type 0 where
  pub of : (h : Header) → IsLog h image → h.generation ≡ told
  pub log : 0 < told → (h : Header) × IsLog h image

module _ {D : Type 0} (is_honest : D → Bool) (state : D → DiskState) (failures : D → ℕ) where
  -- a file was synced and not written, and its header tells this
  pub record LooksAt (old disk : D) (told : ℕ) : Type 0 where
    pub tells : IsTrue (is_honest old) → TellsGeneration told (state old).image
    pub moves : IsTrue (is_honest old) → state disk ≡ synced (state old)
    pub count : failures disk ≡ failures old
    pub honest : is_honest disk ≡ is_honest old

  -- its disk failed
  pub record FailsToLookAt (old disk : D) : Type 0 where
    pub moves : IsTrue (is_honest old) → IsSyncedOrSame (state old) (state disk)
    pub count : GoesUp (failures old) (failures disk)
    pub honest : is_honest disk ≡ is_honest old

  -- the same of the file at a place, which is closed then
  abbrev pub Looks : Option D → LogSlot D → ℕ → Type 0
  Looks (Some old) (Closed disk) told = LooksAt old disk told
  Looks disk slot told = ⊥

  -- or there is no disk
  abbrev pub FailsToLook : Option D → LogSlot D → Type 0
  FailsToLook (Some old) (Closed disk) = FailsToLookAt old disk
  FailsToLook None Away = Unit {0}
  FailsToLook disk slot = ⊥
