-- How far a turn of all logs is, from one generation to the next.
use Rattle.std.specs.Prelude.{◌≡◌, ℕ, ◌+◌, ◌<◌, ◌≤◌, Bool, true, nat_lt, if◌then◌else◌, length, Option, Some, None, Result, Ok, Err}
use Rattle.mt_crashes.specs.{Bases.CheckpointView, Stores.{Store, ReachesAt}}
use Rattle.mt_slots.specs.{declared.slot.Slot.Slot, declared.store_slots.StoreSlots.StoreSlots, Places.{number_of}}
use Rattle.mt_disk.specs.declared.mem.MemDisk.{MemDisk}
use Rattle.mt_generations.specs.Turns.{HasBase}
use Rattle.mt_log_files.specs.Files.{Spare}
use Rattle.mt_chain_files.specs.Turns.{FilesNow, now_of}
use Rattle.mt_lives.specs.{declared.live_slots.LiveSlots.LiveSlots, declared.live_slots.LiveSlots.TheVariants.{Rest, Turns, Writes, Away}}
use Rattle.mt_lives.specs.{declared.live_slots.Check.Check, declared.live_slots.TurnStage.TurnStage, declared.live_slots.TurnStage.TheVariants.{Begins, Settles, GivesUp}}
use Rattle.mt_lives.specs.{declared.serving.Settle.Settle, Lives.{Life, Past}, Bases.{Whole, BeginsBy, IsWritten, NewestIsBase, EitherIsBase}}

-- What is known of one worker's files: which generation stands whole; by which step the next log began, if it has one; and that the older log was given up.
pub record Part : Type 0 where
  pub whole : Whole
  pub begun : Option ℕ
  pub given : Bool

-- a log of this generation began by a step, if one is told
abbrev pub HasBegun : ℕ → ℕ → Option ℕ → FilesNow → Type 0
HasBegun g next None files = Unit {0}
HasBegun g next (Some starts) files = BeginsBy g (record { generation = next; starts = starts }) files

-- a worker's files in a turn from a generation on stand so
pub record IsPart (g : ℕ) (part : Part) (files : FilesNow) : Type 0 where
  pub whole : BeginsBy g part.whole files
  pub begun : HasBegun g (g + 1) part.begun files
  pub given : part.given ≡ true → now_of g files ≡ Spare

-- How far all workers are: the first so many have a log of the next generation, each of which began by a step; and of the first so many the older log was
-- given up.
pub record Turning : Type 0 where
  pub whole : Whole
  pub begun : ℕ
  pub starts : ℕ
  pub given : ℕ

-- what that tells of one worker
abbrev pub part_of : Turning → ℕ → Part
part_of turning worker = record {
  whole = turning.whole;
  begun = if nat_lt worker turning.begun then Some turning.starts else None;
  given = nat_lt worker turning.given;
}

-- a generation stands whole, and no more is known
abbrev pub only_whole : Whole → Turning
only_whole whole = record { whole = whole; begun = 0; starts = 0; given = 0 }

-- all logs have begun the next generation, by that step
pub record AllBegun (turning : Turning) (count first : ℕ) : Type 0 where
  pub all : count ≤ turning.begun
  pub starts : turning.starts ≤ first

-- The newest checkpoint was written after all logs had begun the next generation. Of the Settle that follows, the logs before its next one go by its end.
pub record IsSettling (turning : Turning) (newest : Option Slot) (s : Store) (settle : Settle) : Type 0 where
  pub slot : Slot
  pub at : newest ≡ Some slot
  pub written : CheckpointView
  pub begun : AllBegun turning (length s.logs) written.from
  pub stands : IsWritten s turning.starts (number_of slot) written
  pub least : written.to ≤ settle.least
  pub next : settle.next < length s.logs
  pub before : (worker : ℕ) → worker < settle.next → ReachesAt settle.least s worker

-- What holds while one log after the other has its part.
abbrev pub IsAtLog : ℕ → Turning → StoreSlots MemDisk → Store → TurnStage → Type 0
IsAtLog g turning slots s (Begins log) = (log ≤ turning.begun) × (log ≤ length s.logs) × NewestIsBase slots.newest s turning.whole.starts
IsAtLog g turning slots s (Settles settle) = IsSettling turning slots.newest s settle × EitherIsBase slots.newest slots.owed s turning.whole.starts
IsAtLog g turning slots s (GivesUp log) =
    (turning.whole.generation ≡ g + 1) × (log ≤ turning.given) × (log < length s.logs) × NewestIsBase slots.newest s turning.whole.starts

-- A checkpoint is written after all logs have begun the next generation, and not over the base. What is void, was so before it.
pub record IsWriting (turning : Turning) (s : Store) (check : Check) : Type 0 where
  pub begun : AllBegun turning (length s.logs) check.writing.writer.first
  pub covers : turning.whole.starts ≤ check.writing.writer.first
  pub reached : s.reached ≤ check.writing.writer.first
  pub base : NewestIsBase check.writing.newest s turning.whole.starts

-- The base while a life is served, and how far the turn is.
abbrev pub IsTurning : ℕ → Turning → LiveSlots → Store → Type 0
IsTurning g turning (Rest slots) s = EitherIsBase slots.newest slots.owed s turning.whole.starts
IsTurning g turning (Turns turn) s = IsAtLog g turning turn.slots s turn.stage
IsTurning g turning (Writes check) s = IsWriting turning s check
IsTurning g turning Away s = ⊥

-- After a crash the base is in some slot: which one is the newest, only a recovery finds.
abbrev pub StandsOnBase : Result Life Past → ℕ → Turning → LiveSlots → Store → Type 0
StandsOnBase (Ok life) g turning slots s = (turning.starts ≤ s.steps) × IsTurning g turning slots s
StandsOnBase (Err past) g turning slots s = HasBase s turning.whole.starts
