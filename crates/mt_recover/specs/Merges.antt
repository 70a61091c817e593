-- The records of all logs by their stamps, as they are taken from logs that are read again.
use Rattle.std.specs.{Prelude.{◌≡◌, ◌≢◌, ◌⊎◌, ℕ, zero, suc, ◌+◌, ◌<◌, ◌≤◌, ◌==◌, true, false, List, [], ◌∷◌, ◌++◌, length, map, Option, Some, None, MatchOption, slice_get, nat_lt, if◌then◌else◌}, List.filter}
use Rattle.mt_rows.specs.{declared.record.Record.Record, declared.refusal.Refusal.{Refusal}, declared.refusal.Refusal.TheVariants.{Device, StampsFall}}
use Rattle.mt_log.specs.{declared.batch.LogBatch.LogBatch, Contents.{Contents}}
use Rattle.mt_crashes.specs.Fronts.{In, Rise}
use Rattle.mt_recover.specs.{Falls.first_fall, Twice.IsFirstTwice, Outlines.AreAgain, Sources.Goes, Lanes.{IsLane, IsFull, work}, declared.lanes.Lane.{Lane}, declared.records.Next.{Next}}

-- a record that was taken, after the place of its log
abbrev pub Taken : Type 0
Taken = ℕ × Record

-- the records that were taken, of all logs and of one
abbrev pub all_taken : List Taken → List Record
all_taken taken = map (λ t. t.1) taken

abbrev pub taken_of : ℕ → List Taken → List Record
taken_of place taken = all_taken (filter (λ t. t.0 == place) taken)

-- the last stamp of records, or one before them
abbrev pub last_stamp : ℕ → List Record → ℕ
last_stamp before [] = before
last_stamp before (r ∷ rs) = last_stamp r.stamp rs

-- So far these records were taken, by stamps that rise. Each log has those of its own behind it. What is left of any comes after all of them.
pub record AreMerging (taken : List Taken) (logs : List Contents) (lanes : List Lane) : Type 0 where
  pub count : length lanes ≡ length logs
  pub rise : first_fall logs ≡ None
  pub order : Rise 0 (all_taken taken)
  pub known : (t : Taken) → In t taken → t.0 < length logs
  pub lane : (k : ℕ) (log : Contents) (lane : Lane) → slice_get logs k ≡ Some log → slice_get lanes k ≡ Some lane → IsLane (taken_of k taken) log lane × IsFull log lane
  pub ahead : (k : ℕ) (lane : Lane) (r : Record) → slice_get lanes k ≡ Some lane → In r lane.left.items → last_stamp 0 (all_taken taken) < r.stamp

-- the first stamp that is left of a log
abbrev pub first_of : List Record → Option ℕ
first_of [] = None
first_of (r ∷ rs) = Some r.stamp

abbrev pub first_at : List Lane → ℕ → Option ℕ
first_at [] k = None
first_at (lane ∷ lanes) zero = first_of lane.left.items
first_at (lane ∷ lanes) (suc k) = first_at lanes k

-- how much is left of all logs
abbrev pub works : List Contents → List Lane → ℕ
works [] lanes = 0
works (log ∷ logs) [] = 0
works (log ∷ logs) (lane ∷ lanes) = work log lane + works logs lanes

-- no log has a record left
abbrev pub AreAtEnd : List Lane → Type 0
AreAtEnd lanes = (k : ℕ) → first_at lanes k ≡ None

-- The log with the least first stamp. Whether another one has it too is told.
pub record IsNext (lanes : List Lane) (next : Next) : Type 0 where
  pub first : first_at lanes next.log ≡ Some next.stamp
  pub least : (k stamp : ℕ) → first_at lanes k ≡ Some stamp → next.stamp ≤ stamp
  pub alone : next.twice ≡ false → (k : ℕ) → first_at lanes k ≡ Some next.stamp → k ≡ next.log
  pub other : next.twice ≡ true → (k : ℕ) × (k ≢ next.log) × (first_at lanes k ≡ Some next.stamp)

-- the lesser of two, the first of equal ones
abbrev pub lesser : Option Next → ℕ → ℕ → Next
lesser None place stamp = record { log = place; stamp = stamp; twice = false }
lesser (Some n) place stamp = if nat_lt n.stamp stamp then n else if n.stamp == stamp then record n { twice = true } else record { log = place; stamp = stamp; twice = false }

-- there is such a log, or no log has a record left
abbrev pub IsLeast : List Lane → Option Next → Type 0
IsLeast lanes None = AreAtEnd lanes
IsLeast lanes (Some next) = IsNext lanes next

-- no log whose first stamp is this one is of a higher worker, and if some worker is higher than 0, such a log is its own
pub record IsHighest (logs : List Contents) (lanes : List Lane) (stamp worker : ℕ) : Type 0 where
  pub upto : (k : ℕ) (log : Contents) → slice_get logs k ≡ Some log → first_at lanes k ≡ Some stamp → log.worker ≤ worker
  pub there : 0 < worker → (k : ℕ) × (log : Contents) × (slice_get logs k ≡ Some log) × (first_at lanes k ≡ Some stamp) × (log.worker ≡ worker)
