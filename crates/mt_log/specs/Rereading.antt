-- Reading a log again: which batches a reader has still to give, and that the log is only read.
use Rattle.std.specs.Prelude.{◌≡◌, ◌≢◌, ℕ, Bool, IsTrue, List, [], ◌∷◌, ◌++◌, length, drop, Option, Some, None, Result, MatchResult}
use Rattle.std.specs.List.{flat_map, AllByRecursion}
use Rattle.mt_rows.specs.Rows.{Bytes}
use Rattle.mt_disk.specs.Disk.{DiskState, GoesUp}
use Rattle.mt_log.specs.{declared.batch.LogBatch.LogBatch, declared.batch.ReadBatch.ReadBatch, declared.batch_reader.BatchReader.BatchReader}
use Rattle.mt_log.specs.{declared.log_file.LogFile.LogFile, declared.fault.ReadFault.ReadFault}
use Rattle.mt_log.specs.{Format.batch_bytes, Contents.IsLogBatch, Beginnings.IsHead}
use Rattle.mt_log.specs.declared.fault.ReadFault.TheVariants as faults

-- These batches a reader of an image has still to give. They stand from its gate on, and after them a gate that isn't open.
pub record AreAhead (batches : List LogBatch) (image : Bytes) (reader : BatchReader) : Type 0 where
  pub each : AllByRecursion (IsLogBatch reader.version) batches
  pub gate : ℕ
  pub behind : Bytes
  pub is_shut : gate ≢ 1
  pub parts : drop reader.place image ≡ flat_map batch_bytes batches ++ (gate ∷ behind)
  pub head : IsHead (drop reader.place image) reader.head
  pub len : reader.len ≡ length image

-- the first of these batches was given, or none if none is ahead; the others are still ahead
abbrev pub GivesFirst : List LogBatch → Bytes → Option ReadBatch → BatchReader → Type 0
GivesFirst [] image None new = AreAhead [] image new
GivesFirst [] image (Some read) new = ⊥
GivesFirst (b ∷ bs) image None new = ⊥
GivesFirst (b ∷ bs) image (Some read) new = (read.batch ≡ b) × AreAhead bs image new

-- what a call of `next` gave over an image: of whatever batches were ahead, the first
abbrev pub GivesNext : Bytes → BatchReader → Option ReadBatch → BatchReader → Type 0
GivesNext image old given new = (batches : List LogBatch) → AreAhead batches image old → GivesFirst batches image given new

-- one call after the other gave these batches, and then none
abbrev pub GivesAll : Bytes → BatchReader → List LogBatch → Type 0
GivesAll image reader [] = (new : BatchReader) × GivesNext image reader None new
GivesAll image reader (b ∷ bs) = (new : BatchReader) × (read : ReadBatch) × (read.batch ≡ b) × GivesNext image reader (Some read) new × GivesAll image new bs

-- a log was only read: it ends where it did, and the state of an honest disk stays
pub record IsOnlyRead {D : Type 0} (is_honest : D → Bool) (state : D → DiskState) (old new : LogFile D) : Type 0 where
  pub end : new.end ≡ old.end
  pub mark : new.mark ≡ old.mark
  pub same : IsTrue (is_honest old.disk) → state new.disk ≡ state old.disk
  pub honest : is_honest new.disk ≡ is_honest old.disk

-- the count of failures goes up if the disk failed, and at nothing else
abbrev pub CountsFault : ReadFault → ℕ → ℕ → Type 0
CountsFault faults.Device old new = GoesUp old new
CountsFault faults.Memory old new = new ≡ old
CountsFault (faults.Bad number offset) old new = new ≡ old

abbrev pub CountsReads : {T : Type 0} → Result T ReadFault → ℕ → ℕ → Type 0
CountsReads result old new = MatchResult result (λ _. new ≡ old) (λ e. CountsFault e old new)

-- a fault that says nothing of the file
abbrev pub IsNotBad : ReadFault → Type 0
IsNotBad faults.Device = Unit {0}
IsNotBad faults.Memory = Unit {0}
IsNotBad (faults.Bad number offset) = ⊥
