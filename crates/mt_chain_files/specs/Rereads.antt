-- A worker's files whose logs are read again: what becomes of them, and which batches of its chain are still to be given.
use Rattle.std.specs.Prelude.{◌≡◌, ◌⊎◌, ℕ, ◌+◌, ◌<◌, ◌≤◌, ◌==◌, if◌then◌else◌, Bool, true, false, IsTrue, List, [], ◌++◌, Option, Some, None}
use Rattle.mt_disk.specs.Disk.{DiskState}
use Rattle.mt_log_generations.specs.Headers.{parity_of}
use Rattle.mt_log.specs.{declared.batch.LogBatch.LogBatch, declared.log_file.LogFile.LogFile, declared.batch_reader.BatchReader.BatchReader, declared.reader.FileKind.FileKind}
use Rattle.mt_log.specs.{declared.reader.FileKind.TheVariants.{Plain, Numbered}, Contents.Contents, Fronts.IsOfKind, Logs.IsLogOf, Rereading.{AreAhead, IsOnlyRead}}
use Rattle.mt_recover.specs.{declared.resuming.LogSlot.LogSlot, declared.resuming.LogSlot.TheVariants.{Open}}
use Rattle.mt_log_files.specs.{declared.worker.WorkerFiles.WorkerFiles, Slots.{disk_in, file_of}}
use Rattle.mt_chain_files.specs.{declared.chain_reader.ChainReader.ChainReader, Lists.Each}

-- of which kind the file of a generation's log is
abbrev pub kind_of : ℕ → FileKind
kind_of g = if g == 0 then Plain else Numbered (parity_of g)

-- the generation after one, if it is told to be begun
abbrev pub next_of : ℕ → Option Bool → Option ℕ
next_of g (Some true) = Some (g + 1)
next_of g (Some false) = None
next_of g None = None

-- a reader that has not begun with a worker's chain from a generation on
abbrev pub reader_from : ℕ → Option Bool → ChainReader
reader_from g begun = record { generation = g; next = next_of g begun; reader = None }

-- a count of failures stays if all went well, and else it does not fall
abbrev pub Counts : Bool → ℕ → ℕ → Type 0
Counts true old new = new ≡ old
Counts false old new = old ≤ new

module _ {D : Type 0} (is_honest : D → Bool) where
  -- the disks of a worker's files keep the rules
  abbrev pub AreHonest : WorkerFiles D → Type 0
  AreHonest files = (g : ℕ) (disk : D) → disk_in (file_of g files) ≡ Some disk → IsTrue (is_honest disk)

  module _ (state : D → DiskState) (failures : D → ℕ) (well : Bool) where
    -- an open log was only read
    pub record LogIsRead (old new : LogSlot D) : Type 0 where
      pub was : LogFile D
      pub is : LogFile D
      pub from : old ≡ Open was
      pub to : new ≡ Open is
      pub only : IsOnlyRead is_honest state was is
      pub count : Counts well (failures was.disk) (failures is.disk)

    -- a place is as it was, but that its log may have been read
    abbrev pub SlotIsRead : LogSlot D → LogSlot D → Type 0
    SlotIsRead old new = (new ≡ old) ⊎ LogIsRead old new

    -- so are the places of a worker's files
    pub record FilesAreRead (old new : WorkerFiles D) : Type 0 where
      pub plain : SlotIsRead old.plain new.plain
      pub even : SlotIsRead old.even new.even
      pub odd : SlotIsRead old.odd new.odd

    -- and those of all workers
    abbrev pub AllAreRead : List (WorkerFiles D) → List (WorkerFiles D) → Type 0
    AllAreRead old new = Each (λ k was is. FilesAreRead was is) old new

  module _ (state : D → DiskState) where
    -- these batches of an open log are still to be given: all, if no reader has begun with it
    abbrev pub AreToGive : FileKind → List LogBatch → LogFile D → Option BatchReader → Type 0
    AreToGive kind batches log None = (c : Contents) × IsLogOf state c log × IsOfKind kind c.generation × (batches ≡ c.batches)
    AreToGive kind batches log (Some reader) = AreAhead batches (state log.disk).image reader

    -- a place has such a log, whose disk keeps the rules
    pub record LogIsAhead (kind : FileKind) (batches : List LogBatch) (slot : LogSlot D) (reader : Option BatchReader) : Type 0 where
      pub log : LogFile D
      pub there : slot ≡ Open log
      pub honest : IsTrue (is_honest log.disk)
      pub ahead : AreToGive kind batches log reader

    -- Batches of a generation's log are still to be given, and then those of the next log, if there is one.
    abbrev pub LogsAreAhead : ℕ → Option ℕ → List LogBatch → WorkerFiles D → Option BatchReader → Type 0
    LogsAreAhead g None batches files reader = LogIsAhead (kind_of g) batches (file_of g files) reader
    LogsAreAhead g (Some next) batches files reader = (first rest : List LogBatch) × (batches ≡ first ++ rest) × (next ≡ g + 1)
        × LogIsAhead (kind_of g) first (file_of g files) reader × LogIsAhead (kind_of next) rest (file_of next files) None

    -- these batches of a worker's chain are
    abbrev pub ChainIsAhead : List LogBatch → WorkerFiles D → ChainReader → Type 0
    ChainIsAhead batches files r = LogsAreAhead r.generation r.next batches files r.reader

    -- No batch of the log that a reader is at is still to be given. Of the next log these are, if there is one.
    abbrev pub NextIsAhead : ℕ → Option ℕ → List LogBatch → WorkerFiles D → Option BatchReader → Type 0
    NextIsAhead g None batches files reader = (batches ≡ []) × LogIsAhead (kind_of g) [] (file_of g files) reader
    NextIsAhead g (Some next) batches files reader = LogIsAhead (kind_of next) batches (file_of next files) None

-- a reader is at a numbered log, and so is the next one
pub record IsNumbered (r : ChainReader) : Type 0 where
  pub this : 0 < r.generation
  pub next : (n : ℕ) → r.next ≡ Some n → 0 < n

-- no plain file has changed
abbrev pub PlainStay : {D : Type 0} → List (WorkerFiles D) → List (WorkerFiles D) → Type 0
PlainStay old new = Each (λ k was is. is.plain ≡ was.plain) old new
