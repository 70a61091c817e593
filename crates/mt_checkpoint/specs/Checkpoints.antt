-- What a checkpoint says, what counts of a slot's file, and what may be left of one.
use Rattle.std.specs.{Prelude.{◌≡◌, ◌⊎◌, ℕ, ◌+◌, ◌^◌, ◌<◌, ◌≤◌, false, List, [], ◌∷◌, ◌++◌, Option, Some, None}, declared.cmp.Ordering.TheVariants.Less}
use Rattle.std.specs.List.{flat_map, slice_get, AllByRecursion}
use Rattle.mt_rows.specs.{Rows.{Bytes, IsRow}, Commands.IsKey, Tenants.owned_cmp, TenantPairs.{owner_of, AreStampedUpto}, declared.record.TenantPair.TenantPair}
use Rattle.mt_disk.specs.Disk.{Moment, MayLeave, DiskState, is_dirty, IsDurable}
use Rattle.mt_checkpoint.specs.{declared.checkpoint.Checkpoint.Checkpoint, Format.{IsVersion, head_bytes, entry_bytes, last_bytes}}

-- a pair whose fields have their limits
pub record IsPair (p : TenantPair) : Type 0 where
  pub tenant : p.tenant < 2 ^ 32
  pub key : IsKey p.key
  pub stamp : p.row.stamp < 2 ^ 64
  pub row : IsRow p.row.row

-- one pair is of an earlier tenant than another, or of an earlier key of the same tenant
abbrev pub IsBefore : TenantPair → TenantPair → Type 0
IsBefore p q = owned_cmp (owner_of p) (owner_of q) ≡ Less

-- each pair is before the next one
abbrev pub Rise : List TenantPair → Type 0
Rise ps = (i : ℕ) (p q : TenantPair) → slice_get ps i ≡ Some p → slice_get ps (i + 1) ≡ Some q → IsBefore p q

-- a walk over the pairs of all tenants: the number of steps before it and after it, and what it found
pub record Walk : Type 0 where
  pub first : ℕ
  pub last : ℕ
  pub pairs : List TenantPair

-- a walk as a checkpoint may say it
pub record IsWalk (w : Walk) : Type 0 where
  pub order : w.first ≤ w.last
  pub end : w.last ≤ 2 ^ 59
  pub each : AllByRecursion IsPair w.pairs
  pub rising : Rise w.pairs
  pub stamps : AreStampedUpto w.last w.pairs

-- if there is one
abbrev pub IsWalkOrNone : Option Walk → Type 0
IsWalkOrNone None = Unit {0}
IsWalkOrNone (Some w) = IsWalk w

-- what a checkpoint says
abbrev pub walk_of : Checkpoint → Walk
walk_of c = record { first = c.first; last = c.last; pairs = c.pairs.items }

-- A format in which a walk can be spelled. Format 1 tells no stamps: there each row has the number of steps before the walk.
pub record IsSpelledIn (version : ℕ) (w : Walk) : Type 0 where
  pub known : IsVersion version
  pub stamps : version ≡ 1 → AllByRecursion (λ p. p.row.stamp ≡ w.first) w.pairs

-- its bytes after the gate, in a format
abbrev pub walk_bytes : ℕ → Walk → Bytes
walk_bytes version w = head_bytes version w.first ++ (flat_map (entry_bytes version) w.pairs ++ last_bytes w.last)

-- A file is a whole checkpoint: its gate is open, and one follows it, in either format. Bytes after that aren't read.
pub record HasWalk (w : Walk) (image : Bytes) : Type 0 where
  pub is : IsWalk w
  pub version : ℕ
  pub spelled : IsSpelledIn version w
  pub behind : Bytes
  pub whole : image ≡ 1 ∷ (walk_bytes version w ++ behind)

-- and anything else is none
abbrev pub HasNone : Bytes → Type 0
HasNone image = (w : Walk) → HasWalk w image → ⊥

-- what a slot's file has: a checkpoint, or none
abbrev pub Has : Option Walk → Bytes → Type 0
Has None image = HasNone image
Has (Some w) image = HasWalk w image

-- x stands in a list
abbrev pub In : {X : Type 0} → X → List X → Type 0
In x [] = ⊥
In x (y ∷ ys) = (x ≡ y) ⊎ In x ys

-- a closed gate: whatever follows it, this is no checkpoint
pub record IsClosed (image : Bytes) : Type 0 where
  pub behind : Bytes
  pub whole : image ≡ 0 ∷ behind

-- a gate before a whole checkpoint: open, or any other where the slot may also have none
pub record IsGated (may : List (Option Walk)) (image : Bytes) : Type 0 where
  pub walk : Walk
  pub among : In (Some walk) may
  pub is : IsWalk walk
  pub version : ℕ
  pub spelled : IsSpelledIn version walk
  pub gate : ℕ
  pub behind : Bytes
  pub whole : image ≡ gate ∷ (walk_bytes version walk ++ behind)
  pub open_or : (gate ≡ 1) ⊎ In None may

-- What may be left of a slot that may have one of these. That a whole checkpoint follows a gate that is torn is a part of it: reading closes such a
-- gate, and a crash in the midst of that may leave it open.
abbrev pub IsOneOf : List (Option Walk) → Bytes → Type 0
IsOneOf may image = (In None may × IsClosed image) ⊎ IsGated may image

-- at a moment no crash opens the gate
pub record IsShut (m : Moment) : Type 0 where
  pub closed : slice_get m.durable 0 ≡ Some 0
  pub clean : is_dirty m.dirty 0 ≡ false

-- a disk whose file has a closed gate before these bytes, whatever of them is durable
pub record IsBehindGate (text : Bytes) (s : DiskState) : Type 0 where
  pub image : s.image ≡ 0 ∷ text
  pub shut : IsShut s.now
  pub reads : MayLeave s.now s.image

-- a disk whose file has a closed gate, that no crash opens
pub record IsShutIn (s : DiskState) : Type 0 where
  pub shut : IsShut s.now
  pub reads : MayLeave s.now s.image

-- a slot at rest: its gate is closed, and all of it is durable
pub record IsClosedAtRest (s : DiskState) : Type 0 where
  pub closed : IsClosed s.image
  pub durable : IsDurable s

-- with these bytes after a closed gate, all of them durable
pub record IsStaged (text : Bytes) (s : DiskState) : Type 0 where
  pub image : s.image ≡ 0 ∷ text
  pub durable : IsDurable s
