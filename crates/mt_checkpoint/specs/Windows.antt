-- Reading a slot's file a window at a time: for the functions that do it; no public contract cites these words.
use Rattle.std.specs.Prelude.{◌≡◌, ℕ, ◌+◌, ◌-◌, ◌^◌, ◌<◌, ◌≤◌, min, Bool, IsTrue, List, ◌∷◌, ◌++◌, length, take, drop, Option, Some, None, Vec}
use Rattle.std.specs.{List.{flat_map, AllByRecursion}, declared.alloc.Global.Global}
use Rattle.mt_rows.specs.{Rows.Bytes, declared.record.TenantPair.TenantPair}
use Rattle.mt_disk.specs.Disk.{DiskState}
use Rattle.mt_checkpoint.specs.{declared.reader.Head.Head, declared.reader.Stop.Stop, declared.seen.SeenPairs.SeenPairs, Format.{head_bytes, entry_bytes, last_bytes}}
use Rattle.mt_checkpoint.specs.{Checkpoints.{Walk, IsWalkOrNone, Has, HasNone}, Seen.HasSeen, Reading.{IsEntry, IsHead, HasNoHead}}
use Rattle.mt_checkpoint.specs.declared.reader.Stop.TheVariants as stops

-- over an honest disk with a file of this length: its image has P
abbrev pub OfImage : {D : Type 0} → (D → Bool) → (D → DiskState) → D → ℕ → (Bytes → Type 0) → Type 0
OfImage is_honest state disk len P = IsTrue (is_honest disk) → len ≡ length (state disk).image → P (state disk).image

-- what was read from a place on, up to so many bytes
pub record IsWindow {D : Type 0} (is_honest : D → Bool) (state : D → DiskState) (disk : D) (len place count : ℕ) (bytes : Vec ℕ Global) : Type 0 where
  pub size : length bytes.items ≡ min count (len - place)
  pub told : OfImage is_honest state disk len (λ image. bytes.items ≡ take count (drop place image))

-- the head of a file, after its gate
abbrev pub IsHeadIn : Bytes → Option Head → Type 0
IsHeadIn image None = HasNoHead (drop 1 image)
IsHeadIn image (Some head) = IsHead head × (drop 1 image ≡ head_bytes head.version head.first ++ drop 15 image)

-- the entries of these pairs stand after the head, up to this place
pub record StandBefore (head : Head) (place : ℕ) (image : Bytes) (pairs : List TenantPair) : Type 0 where
  pub parts : drop 15 image ≡ flat_map (entry_bytes head.version) pairs ++ drop place image

-- these entries are all, and the last entry follows them
abbrev pub StandWhole : Head → Bytes → List TenantPair → ℕ → Type 0
StandWhole head image pairs last = (last < 2 ^ 64) × ((more : Bytes) × (drop 15 image ≡ flat_map (entry_bytes head.version) pairs ++ (last_bytes last ++ more)))

-- what follows entries up to a place: more may, the last one does, or the file has no checkpoint
abbrev pub StandsAfter : Head → ℕ → Bytes → List TenantPair → Stop → Type 0
StandsAfter head place image pairs stops.More = StandBefore head place image pairs
StandsAfter head place image pairs (stops.Last last) = StandWhole head image pairs last
StandsAfter head place image pairs stops.Bad = IsHeadIn image (Some head) → HasNone image

-- what is known of the entries so far, of any disk
pub record AreEntries (head : Head) (pairs : List TenantPair) (seen : SeenPairs) : Type 0 where
  pub each : AllByRecursion (IsEntry head) pairs
  pub has_seen : HasSeen pairs seen

-- the walk of these steps and pairs
abbrev pub walk_from : List TenantPair → Option (ℕ × ℕ) → Option Walk
walk_from pairs None = None
walk_from pairs (Some steps) = Some (record { first = steps.0; last = steps.1; pairs = pairs })

module _ {D : Type 0} (is_honest : D → Bool) (state : D → DiskState) (disk : D) (len : ℕ) where
  -- the entries of a window were taken after those before: so many bytes, and what follows them
  pub record TakesWindow (head : Head) (place : ℕ) (old new : List TenantPair) (seen : SeenPairs) (used : ℕ) (stop : Stop) : Type 0 where
    pub within : place + used ≤ len
    pub some : stop ≡ stops.More → 1 ≤ used
    pub entries : (stop ≡ stops.Bad → ⊥) → AreEntries head new seen
    pub told : OfImage is_honest state disk len (λ image. StandBefore head place image old → StandsAfter head (place + used) image new stop)

  -- what was read after an open gate: a walk in the format, which over an honest disk is the file's; or it has none
  pub record IsReadOpen (x : Option Walk) : Type 0 where
    pub format : IsWalkOrNone x
    pub told : OfImage is_honest state disk len (λ image. (behind : Bytes) → image ≡ 1 ∷ behind → Has x image)

  -- and what was read after this head
  pub record IsReadAfter (head : Head) (x : Option Walk) : Type 0 where
    pub format : IsWalkOrNone x
    pub told : OfImage is_honest state disk len (λ image. IsHeadIn image (Some head) → (behind : Bytes) → image ≡ 1 ∷ behind → Has x image)
