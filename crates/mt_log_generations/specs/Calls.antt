-- What the calls on a numbered file promise, and what each leaves at each of its moments.
use Rattle.std.specs.Prelude.{◌≡◌, ◌⊎◌, ℕ, ◌<◌, Bool, IsTrue, List, [], length, Option, Some, None}
use Rattle.mt_disk.specs.Disk.{DiskState, LeavesOnly, IsDurable, GoesUp, synced}
use Rattle.mt_gates.specs.Gates.{IsClosed, IsLeftOf}
use Rattle.mt_log_generations.specs.{declared.header.Header.Header, declared.fault.HeaderFault.HeaderFault, Headers.{IsHeader, Has, IsBad}}
use Rattle.mt_log_generations.specs.declared.fault.HeaderFault.TheVariants.{Device, Bad}

-- What a file is after it was read. All of it is durable. One that is no log is empty, or its gate is closed. A log is
-- as it was.
abbrev pub IsSettled : Option Header → DiskState → DiskState → Type 0
IsSettled None old new = IsDurable new × ((new.image ≡ []) ⊎ IsClosed new.image)
IsSettled (Some h) old new = new ≡ synced old

-- what was read has its limits, of any disk
abbrev pub IsHeaderOrNone : Option Header → Type 0
IsHeaderOrNone None = Unit {0}
IsHeaderOrNone (Some h) = IsHeader h

module _ {D : Type 0} (is_honest : D → Bool) (state : D → DiskState) (failures : D → ℕ) where
  -- over an honest disk: what may be left of a file that was begun with a text, or given up, may be left again
  abbrev pub StillLeaves : D → D → Type 0
  StillLeaves old new = IsTrue (is_honest old) → (text : List ℕ) (first : DiskState) → 0 < length text
      → LeavesOnly (IsLeftOf text) first (state old) → LeavesOnly (IsLeftOf text) first (state new)

  -- a file was read: it has this
  pub record ReadHeader (old new : D) (x : Option Header) : Type 0 where
    pub format : IsHeaderOrNone x
    pub tells : IsTrue (is_honest old) → Has x (state old).image
    pub settled : IsTrue (is_honest old) → IsSettled x (state old) (state new)
    pub leaves : StillLeaves old new
    pub count : failures new ≡ failures old
    pub honest : is_honest new ≡ is_honest old

  -- the disk failed
  pub record FailsToRead (old new : D) : Type 0 where
    pub leaves : StillLeaves old new
    pub count : GoesUp (failures old) (failures new)
    pub honest : is_honest new ≡ is_honest old

  -- the file is neither: it was synced and not written
  pub record IsRefused (old new : D) (number : ℕ) : Type 0 where
    pub bad : IsTrue (is_honest old) → IsBad (state old).image number
    pub moves : IsTrue (is_honest old) → state new ≡ synced (state old)
    pub count : failures new ≡ failures old
    pub honest : is_honest new ≡ is_honest old

  -- why it was not read
  abbrev pub IsNotRead : D → D → HeaderFault → Type 0
  IsNotRead old new Device = FailsToRead old new
  IsNotRead old new (Bad number) = IsRefused old new number
