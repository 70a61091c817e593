-- What a recovery answers for the fronts of all logs and what was read of the checkpoints' slots, and when it refuses them.
use Rattle.std.specs.Prelude.{◌≡◌, ◌≢◌, ◌⊎◌, ℕ, ◌<◌, ◌≤◌, max, false, List, [], ◌∷◌, length, Option, Some, None, slice_get}
use Rattle.mt_rows.specs.{Tenants.{Contents as Pairs}, declared.record.Record.Record}
use Rattle.mt_log.specs.Contents.{Contents}
use Rattle.mt_crashes.specs.Bases.{CheckpointView, Slots}
use Rattle.mt_crashes.specs.Fronts.{In, greatest, cutoff_of, last_end, is_void, all_voids, records_of, IsReplay, HoldResume, IsLastServed, after_replay}
use Rattle.std.specs.FinMap as pairs

-- it ended by the cutoff, and in no void range
pub record MayUse (fronts : List Contents) (c : CheckpointView) : Type 0 where
  pub whole : c.to ≤ cutoff_of fronts
  pub live : is_void (all_voids fronts) c.to ≡ false

abbrev pub HasSlot : Slots → ℕ → CheckpointView → Type 0
HasSlot slots k c = slice_get slots k ≡ Some (Some c)

-- the checkpoint that is used: of those that may be, the one that was walked last, the first of these
abbrev pub IsUsed : List Contents → Slots → Option ℕ → Type 0
IsUsed fronts slots None = (k : ℕ) (c : CheckpointView) → HasSlot slots k c → MayUse fronts c → ⊥
IsUsed fronts slots (Some k) = (c : CheckpointView) × HasSlot slots k c × MayUse fronts c
    × ((j : ℕ) (d : CheckpointView) → HasSlot slots j d → MayUse fronts d → (d.to < c.to) ⊎ ((d.to ≡ c.to) × (k ≤ j)))

-- the base of the replay: that checkpoint, or nothing
abbrev pub IsBaseOf : Slots → Option ℕ → ℕ → Pairs → Type 0
IsBaseOf slots None from base = (from ≡ 0) × (base ≡ pairs.empty)
IsBaseOf slots (Some k) from base = (c : CheckpointView) × HasSlot slots k c × (from ≡ c.from) × (base ≡ c.pairs)

-- where the checkpoints' walks ended
abbrev pub checkpoint_ends : Slots → List ℕ
checkpoint_ends [] = []
checkpoint_ends (None ∷ slots) = checkpoint_ends slots
checkpoint_ends (Some c ∷ slots) = c.to ∷ checkpoint_ends slots

-- the number from which the store goes on: the greatest that any file tells
abbrev pub resume_of : List Contents → Slots → ℕ
resume_of fronts slots = max (last_end fronts) (greatest (checkpoint_ends slots))

-- a recovery
pub record IsRecovered (fronts : List Contents) (slots : Slots) (cutoff resume : ℕ) (used : Option ℕ) (pairs : Pairs) : Type 0 where
  pub cutoff_is : cutoff ≡ cutoff_of fronts
  pub resume_is : resume ≡ resume_of fronts slots
  pub used_is : IsUsed fronts slots used
  pub from : ℕ
  pub base : Pairs
  pub base_is : IsBaseOf slots used from base
  pub replayed : List Record
  pub replay : IsReplay from fronts replayed
  pub pairs_are : pairs ≡ after_replay base replayed

-- the logs are the set that their headers name
pub record AreSet (fronts : List Contents) : Type 0 where
  pub some : 0 < length fronts
  pub count : (k : ℕ) (f : Contents) → slice_get fronts k ≡ Some f → f.logs ≡ length fronts
  pub apart : (i j : ℕ) (f g : Contents) → slice_get fronts i ≡ Some f → slice_get fronts j ≡ Some g → f.worker ≡ g.worker → i ≡ j

-- a stamp stands in the logs at two places
pub record StandsTwice (fronts : List Contents) (stamp : ℕ) (i j : ℕ) : Type 0 where
  pub other : i ≢ j
  pub one : (f : Contents) × (r : Record) × (slice_get fronts i ≡ Some f) × In r (records_of f) × (r.stamp ≡ stamp)
  pub two : (g : Contents) × (q : Record) × (slice_get fronts j ≡ Some g) × In q (records_of g) × (q.stamp ≡ stamp)

-- No log is older than the others: each has a resume batch up to the last number from which any of them tells that the store has served. Up to 0 there
-- are no changes, so nothing is asked.
abbrev pub NoneOlder : List Contents → Type 0
NoneOlder fronts = (n : ℕ) (g : Contents) → 0 < n → IsLastServed fronts n → In g fronts → HoldResume n g.batches
