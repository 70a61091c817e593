-- What a crash may leave of a running store's log, and how the batch that waits for it goes on from there.
use Rattle.std.specs.Prelude.{◌≡◌, ◌≢◌, ◌⊎◌, ℕ, Bool, Option, Some, None}
use Rattle.mt_rows.specs.declared.record.Batch.{Batch}
use Rattle.mt_batches.specs.Batches.{IsInOrder}
use Rattle.mt_disk.specs.Disk.{DiskState}
use Rattle.mt_log.specs.{declared.batch.LogBatch.TheVariants.Records}
use Rattle.mt_log.specs.Contents.{IsBatch, mark_of, with_batch}
use Rattle.mt_crashes.specs.Stores.{LogNow, at_rest, MayLeaveFront}
pub use Rattle.mt_log_files.specs.Shows.{LeavesEither, ShowsClosed, ShowsFailed, Shows, IsHonest}
use Rattle.mt_store_logs.specs.declared.last_log.LastLog.{LastLog}

-- a batch waits that goes on where a log ends, and no other batch is in doubt
pub record Waits (now : LogNow) (b : Batch) : Type 0 where
  pub in_order : IsInOrder b
  pub turn : b.from ≡ mark_of now.had
  pub only : (now.doubt ≡ None) ⊎ (now.doubt ≡ Some (Records b))

-- if one waits
abbrev pub WaitsIn : LogNow → Option Batch → Type 0
WaitsIn now None = now.doubt ≡ None
WaitsIn now (Some b) = Waits now b

-- the last log of a worker in a running store, on a disk that keeps the rules
pub record LastStands {D : Type 0} (is_honest : D → Bool) (state : D → DiskState) (now : LogNow) (log : LastLog D) : Type 0 where
  pub honest : IsHonest is_honest log.slot
  pub shows : Shows state now log.slot
  pub waits : WaitsIn now log.kept

-- the step up to which its worker was drained
abbrev pub drained_upto : LogNow → Option Batch → ℕ
drained_upto now None = mark_of now.had
drained_upto now (Some b) = b.to

-- an append of a batch may begin: the log does not end where the batch does
pub record MayBegin (now : LogNow) (b : Batch) : Type 0 where
  pub rests : now.doubt ≡ None
  pub fits : IsBatch b
  pub turn : b.from ≡ mark_of now.had
  pub past : b.to ≢ mark_of now.had

-- it has begun, and has succeeded
abbrev pub begun : LogNow → Batch → LogNow
begun now b = record { had = now.had; doubt = Some (Records b) }

abbrev pub appended : LogNow → Batch → LogNow
appended now b = at_rest (with_batch (Records b) now.had)

-- A batch that waited is in the log: it was appended, or the log had it.
abbrev pub IsIn : Option Batch → LogNow → LogNow → Type 0
IsIn None old new = new ≡ old
IsIn (Some b) old new = ((new ≡ old) × (mark_of old.had ≡ b.to)) ⊎ (MayBegin old b × (new ≡ appended old b))

-- A batch still waits: its append has begun, or nothing has happened.
abbrev pub IsInDoubt : Option Batch → LogNow → LogNow → Type 0
IsInDoubt None old new = new ≡ old
IsInDoubt (Some b) old new = (new ≡ old) ⊎ (MayBegin old b × (new ≡ begun old b))

-- a log is at rest with what a crash might have left of it
pub record ComesToRest (old new : LogNow) : Type 0 where
  pub rests : new.doubt ≡ None
  pub left : MayLeaveFront old new.had
