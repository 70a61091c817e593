-- What the fronts of all logs tell together: where they end, which numbers are void, and what is replayed.
use Rattle.std.specs.Prelude.{◌≡◌, ◌⊎◌, ℕ, ◌<◌, ◌≤◌, min, max, Bool, not, ◌&&◌, nat_lt, List, [], ◌∷◌, map, Option, Some, None, if◌then◌else◌}
use Rattle.std.specs.{List.{filter, filter_map, flat_map}, List.Sorted.IsPermutation}
use Rattle.mt_rows.specs.{Rows.Bytes, Tenants.{Contents as Pairs}, declared.record.Record.Record, Stamps.{Stamped, stamp_in, written}}
use Rattle.mt_rows.specs.{declared.record.Write.TheVariants.{Changed, Removed, Whole}, declared.record.Write.Write}
use Rattle.mt_log.specs.{declared.batch.LogBatch.LogBatch, declared.batch.LogBatch.TheVariants.{Records, Resume, OldRecords}, Contents.{Contents, mark_of}}
use Rattle.mt_tape.specs.Histories.{with_row}
pub use Rattle.mt_log.specs.Voids.{Numbers, voids_in, is_void, records_in}
use Rattle.std.specs.FinMap as pairs

-- the least of some numbers, 0 of none
abbrev pub least : List ℕ → ℕ
least [] = 0
least (n ∷ []) = n
least (n ∷ m ∷ ms) = min n (least (m ∷ ms))

-- the greatest of some numbers, 0 of none
abbrev pub greatest : List ℕ → ℕ
greatest [] = 0
greatest (n ∷ ns) = max n (greatest ns)

-- The cutoff: the least end over the fronts of all logs. Each log has its worker's changes up to there.
abbrev pub cutoff_of : List Contents → ℕ
cutoff_of fronts = least (map mark_of fronts)

-- the greatest end
abbrev pub last_end : List Contents → ℕ
last_end fronts = greatest (map mark_of fronts)

-- what one log makes void, and what all do
abbrev pub voids_of : Contents → List Numbers
voids_of front = filter_map voids_in front.batches

abbrev pub all_voids : List Contents → List Numbers
all_voids fronts = flat_map voids_of fronts

-- the records of a log, and of all logs
abbrev pub records_of : Contents → List Record
records_of front = flat_map records_in front.batches

abbrev pub all_records : List Contents → List Record
all_records fronts = flat_map records_of fronts

-- whether a record is replayed: its stamp is over the base, at most the cutoff, and not void
abbrev pub is_replayed : List Numbers → ℕ → ℕ → Record → Bool
is_replayed voids base cutoff r = nat_lt base r.stamp && not (nat_lt cutoff r.stamp) && not (is_void voids r.stamp)

-- x stands in a list
abbrev pub In : {X : Type 0} → X → List X → Type 0
In x [] = ⊥
In x (y ∷ ys) = (x ≡ y) ⊎ In x ys

-- stamps rise strictly over a number
abbrev pub Rise : ℕ → List Record → Type 0
Rise over [] = Unit {0}
Rise over (r ∷ rs) = (over < r.stamp) × Rise r.stamp rs

-- what is replayed over a base: all such records of all logs, in the order of their stamps
pub record IsReplay (base : ℕ) (fronts : List Contents) (rs : List Record) : Type 0 where
  pub same : IsPermutation (filter (is_replayed (all_voids fronts) base (cutoff_of fronts)) (all_records fronts)) rs
  pub rises : Rise base rs

-- the key of a record, with its tenant
abbrev pub key_of : Record → ℕ × Bytes
key_of r = (r.tenant, r.key)

-- what a change makes of what stands at its key; changed columns make nothing of nothing
abbrev pub made : ℕ → Write → Option Stamped → Option Stamped
made stamp Removed old = None
made stamp (Whole row) old = Some (record { stamp = stamp; row = row })
made stamp (Changed change) None = None
made stamp (Changed change) (Some row) = Some (written stamp change (Some row))

-- and what a recovery makes of that: a change is passed over if what stands there has its stamp or a later one
abbrev pub replayed : ℕ → Write → Option Stamped → Option Stamped
replayed stamp write old = if nat_lt (stamp_in old) stamp then made stamp write old else old

-- the pairs after a change
abbrev pub with_change : Pairs → Record → Pairs
with_change m r = with_row m (key_of r) (made r.stamp r.write (pairs.get m (key_of r)))

-- and after one that is replayed
abbrev pub with_replayed : Pairs → Record → Pairs
with_replayed m r = with_row m (key_of r) (replayed r.stamp r.write (pairs.get m (key_of r)))

-- the pairs after changes, one after the other
abbrev pub after_changes : Pairs → List Record → Pairs
after_changes m [] = m
after_changes m (r ∷ rs) = after_changes (with_change m r) rs

-- and after a replay
abbrev pub after_replay : Pairs → List Record → Pairs
after_replay m [] = m
after_replay m (r ∷ rs) = after_replay (with_replayed m r) rs

-- a resume batch up to a number
abbrev pub IsResumeTo : ℕ → LogBatch → Type 0
IsResumeTo n (Records b) = ⊥
IsResumeTo n (OldRecords b) = ⊥
IsResumeTo n (Resume from to kept) = to ≡ n

-- a resume batch up to a number stands among batches
abbrev pub HoldResume : ℕ → List LogBatch → Type 0
HoldResume n [] = ⊥
HoldResume n (b ∷ bs) = IsResumeTo n b ⊎ HoldResume n bs

-- among some batches is one of records, be it of no records
abbrev pub HoldRecords : List LogBatch → Type 0
HoldRecords [] = ⊥
HoldRecords (Records b ∷ bs) = Unit {0}
HoldRecords (OldRecords b ∷ bs) = Unit {0}
HoldRecords (Resume from to kept ∷ bs) = HoldRecords bs

-- a batch of records comes after a resume batch up to a number, at once or later
abbrev pub RecordsFollow : ℕ → List LogBatch → Type 0
RecordsFollow n [] = ⊥
RecordsFollow n (b ∷ bs) = (IsResumeTo n b × HoldRecords bs) ⊎ RecordsFollow n bs

-- A log tells that its store has served from a number on: records follow a resume batch up to there. A store appends records only while it serves, and
-- after a recovery it serves only once every log has its resume batch. So each log has a resume batch up to the last such number that any log tells,
-- unless that is 0.
abbrev pub ServedFrom : ℕ → Contents → Type 0
ServedFrom n front = RecordsFollow n front.batches

-- one of some logs tells that the store has served from a number on
abbrev pub AnyServed : List Contents → ℕ → Type 0
AnyServed fronts n = (f : Contents) × In f fronts × ServedFrom n f

-- the last number from which the store has served, as any of the logs tells
abbrev pub IsLastServed : List Contents → ℕ → Type 0
IsLastServed fronts n = AnyServed fronts n × ((m : ℕ) → AnyServed fronts m → m ≤ n)
