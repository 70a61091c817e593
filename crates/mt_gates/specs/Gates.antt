-- Files behind a gate, their first byte: 01 if what follows it counts, 00 if it is begun or given up.
use Rattle.std.specs.Prelude.{◌≡◌, ◌⊎◌, ℕ, ◌≤◌, Bool, false, IsTrue, List, [], ◌∷◌, ◌++◌, length, drop, Option, Some}
use Rattle.std.specs.List.{slice_get}
use Rattle.mt_disk.specs.Disk.{Moment, MayLeave, DiskState, is_dirty, IsDurable, synced}

-- ---- what a file may be

-- a closed gate, whatever follows it
pub record IsClosed (image : List ℕ) : Type 0 where
  pub behind : List ℕ
  pub whole : image ≡ 0 ∷ behind

-- this text whole after any gate
pub record IsGated (text image : List ℕ) : Type 0 where
  pub gate : ℕ
  pub behind : List ℕ
  pub whole : image ≡ gate ∷ (text ++ behind)

-- What may be left of a file that is begun with this text or given up: its gate is closed, or the text stands whole
-- after any gate. The torn gate is a part of it.
abbrev pub IsLeftOf : List ℕ → List ℕ → Type 0
IsLeftOf text image = IsClosed image ⊎ IsGated text image

-- what may be left of a file that was given up and is begun with another text
abbrev pub IsLeftOfEither : List ℕ → List ℕ → List ℕ → Type 0
IsLeftOfEither old new image = IsLeftOf old image ⊎ IsLeftOf new image

-- the text after an open gate: it counts
pub record HasOpen (text image : List ℕ) : Type 0 where
  pub behind : List ℕ
  pub whole : image ≡ 1 ∷ (text ++ behind)

-- ---- what a disk may be

-- at a moment no crash opens the gate
pub record IsShut (m : Moment) : Type 0 where
  pub closed : slice_get m.durable 0 ≡ Some 0
  pub clean : is_dirty m.dirty 0 ≡ false

-- a disk whose file has a closed gate before these bytes, whatever of them is durable
pub record IsBehindGate (text : List ℕ) (s : DiskState) : Type 0 where
  pub image : s.image ≡ 0 ∷ text
  pub shut : IsShut s.now
  pub reads : MayLeave s.now s.image

-- its gate is closed, and all of it is durable
pub record IsClosedAtRest (s : DiskState) : Type 0 where
  pub closed : IsClosed s.image
  pub durable : IsDurable s

-- with these bytes after a closed gate, all of them durable
pub record IsStaged (text : List ℕ) (s : DiskState) : Type 0 where
  pub image : s.image ≡ 0 ∷ text
  pub durable : IsDurable s

-- the text after an open gate and nothing else, all of it durable
pub record HasDurably (text : List ℕ) (s : DiskState) : Type 0 where
  pub image : s.image ≡ 1 ∷ text
  pub durable : IsDurable s

-- a closed gate and nothing else, durable
abbrev pub IsGivenUp : DiskState → Type 0
IsGivenUp s = IsStaged [] s

-- ---- steps of the calls

-- what a disk may be after a call that failed before its sync, or after it
abbrev pub IsSyncedOrSame : DiskState → DiskState → Type 0
IsSyncedOrSame old new = (new ≡ old) ⊎ (new ≡ synced old)

-- a disk was synced, and this is how long its file is, and its first byte
pub record IsGateOf {D : Type 0} (is_honest : D → Bool) (state : D → DiskState) (old new : D) (r : ℕ × Option ℕ) : Type 0 where
  pub some : (gate : ℕ) → r.1 ≡ Some gate → 1 ≤ r.0
  pub moves : IsTrue (is_honest old) → state new ≡ synced (state old)
  pub len : IsTrue (is_honest old) → r.0 ≡ length (state old).image
  pub gate : IsTrue (is_honest old) → r.1 ≡ slice_get (state old).image 0

-- the gate is closed, and all is durable
pub record ClosesGate (old new : DiskState) : Type 0 where
  pub image : new.image ≡ 0 ∷ drop 1 old.image
  pub durable : IsDurable new
