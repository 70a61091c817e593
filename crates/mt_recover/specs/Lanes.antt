-- Logs that are read again side by side: how far each has come.
use Rattle.std.specs.{Prelude.{◌≡◌, ◌≢◌, ◌⊎◌, ℕ, ◌+◌, ◌*◌, ◌-◌, ◌^◌, ◌<◌, ◌≤◌, List, [], ◌∷◌, ◌++◌, length, take, drop, Option, Some, None}, List.flat_map}
use Rattle.mt_rows.specs.{declared.record.Record.Record, declared.refusal.Refusal.{Refusal}, declared.refusal.Refusal.TheVariants.{Device}}
use Rattle.mt_log.specs.{declared.batch.LogBatch.LogBatch, Contents.{Contents, IsContents}}
use Rattle.mt_crashes.specs.Fronts.{records_in}
use Rattle.mt_recover.specs.{Falls.fall_of, Outlines.outline_of, Sources.Goes, declared.lanes.Lane.{Lane}}

-- the records of the batches that were read again are those that were taken, and those that are left
pub record IsLane (taken : List Record) (log : Contents) (lane : Lane) : Type 0 where
  pub within : lane.read ≤ length log.batches
  pub parts : flat_map records_in (take lane.read log.batches) ≡ taken ++ lane.left.items

-- some are left, or the log is at its end
abbrev pub IsFull : Contents → Lane → Type 0
IsFull log lane = lane.left.items ≡ [] → lane.read ≡ length log.batches

-- how much is left: each batch counts for more than the records of any
abbrev pub work : Contents → Lane → ℕ
work log lane = (length log.batches - lane.read) * 2 ^ 64 + length lane.left.items

module _ {S : Type 0} (logs : S → ℕ) (follows : S → S → Type 0) (left : S → ℕ → List LogBatch → Type 0) where
  -- a source has those batches of a log left that a lane has not read
  abbrev pub HasLeft : ℕ → S → Contents → Lane → Type 0
  HasLeft place s log lane = left s place (drop lane.read log.batches)

  -- More of a log was read again. It keeps its outline, nothing falls in it, and what was taken of it stays. Of a source that has its batches left, it is the
  -- same log. Other logs have left what they had.
  pub record ReadsOn (place : ℕ) (s : S) (log : Contents) (lane : Lane) (t : S) (now : Contents) (further : Lane) : Type 0 where
    pub goes : Goes logs follows s t
    pub outline : outline_of now ≡ outline_of log
    pub rises : fall_of now ≡ None
    pub parts : (taken : List Record) → IsLane taken log lane → IsLane taken now further
    pub within : further.read ≤ length now.batches
    pub format : IsContents log → IsContents now
    pub same : HasLeft place s log lane → (now ≡ log) × HasLeft place t now further
    pub others : (other : ℕ) (bs : List LogBatch) → other ≢ place → left s other bs → left t other bs

  -- A reading of a log stops: the source refused it, or what it gave is not what was read first.
  pub record StopsReading (refused : S → Refusal → Type 0) (place : ℕ) (s : S) (log : Contents) (lane : Lane) (t : S) (now : Contents) (e : Refusal) : Type 0 where
    pub goes : Goes logs follows s t
    pub outline : outline_of now ≡ outline_of log
    pub rises : fall_of now ≡ None
    pub format : IsContents log → IsContents now
    pub same : HasLeft place s log lane → now ≡ log
    pub cause : refused t e ⊎ ((e ≡ Device) × ¬ HasLeft place s log lane)
