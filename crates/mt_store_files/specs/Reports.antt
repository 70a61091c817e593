-- What is reported of a file of a store.
use Rattle.std.specs.Prelude.{◌≡◌, ◌⊎◌, ℕ, Bool, IsTrue, List, ◌∷◌, Option, Some, None}
use Rattle.std.specs.List.{All}
use Rattle.mt_disk.specs.Disk.{DiskState}
use Rattle.mt_checkpoint.specs.{declared.checkpoint.Checkpoint.Checkpoint as AnyCheckpoint, Slots.ReadSlot}
use Rattle.mt_digests.specs.Digests.{digest_in, open_digest, DoAgree}
use Rattle.mt_log_generations.specs.{declared.fault.HeaderFault.TheVariants.{Bad}, Calls.{ReadHeader, IsNotRead}}
use Rattle.mt_store_files.specs.{declared.names.StoreFile.StoreFile, declared.names.StoreFile.TheVariants.{Log as LogFile, Numbered, Slot}, declared.names.FolderFile.TheVariants.{Store}}
use Rattle.mt_store_files.specs.{declared.file_report.Holding.Holding, declared.file_report.Holding.TheVariants.{Checkpoint, NoCheckpoint, FirstLog, Log, NoLog, NoHeader, Unread}}
use Rattle.mt_store_files.specs.{declared.file_report.Comparison.Comparison, declared.file_report.Comparison.TheVariants.{NoDigest, Agrees, Differs}}
use Rattle.mt_store_files.specs.{declared.file_report.FileReport.FileReport, Calls.{FolderCall, Opened, Failed, Adds, IsLook}}

-- only calls that leave the folder as it is are made, or that fail
abbrev pub OnlyLooks : Option (List FolderCall) → Option (List FolderCall) → Type 0
OnlyLooks before after = (calls : List FolderCall) × All (λ call. IsLook call ⊎ (call ≡ Failed)) calls × Adds before after calls

-- a plain file of a worker has that
abbrev pub HoldsPlain : ℕ → Holding → Type 0
HoldsPlain worker (FirstLog other) = other ≡ worker
HoldsPlain worker NoLog = Unit {0}
HoldsPlain worker Unread = Unit {0}
HoldsPlain worker holding = ⊥

module _ {D : Type 0} (is_honest : D → Bool) (state : D → DiskState) (failures : D → ℕ) where
  -- the file of a slot has that, as a checkpoint is read
  abbrev pub HoldsCheckpoint : D → D → Holding → Type 0
  HoldsCheckpoint old new (Checkpoint first last) =
      (found : AnyCheckpoint) × ReadSlot is_honest state failures old new (Some found) × (found.first ≡ first) × (found.last ≡ last)
  HoldsCheckpoint old new NoCheckpoint = ReadSlot is_honest state failures old new None
  HoldsCheckpoint old new Unread = Unit {0}
  HoldsCheckpoint old new holding = ⊥

  -- a numbered file has that, as a header is read
  abbrev pub HoldsNumbered : D → D → Holding → Type 0
  HoldsNumbered old new (Log header) = ReadHeader is_honest state failures old new (Some header)
  HoldsNumbered old new NoLog = ReadHeader is_honest state failures old new None
  HoldsNumbered old new NoHeader = (number : ℕ) × IsNotRead is_honest state failures old new (Bad number)
  HoldsNumbered old new Unread = Unit {0}
  HoldsNumbered old new holding = ⊥

  -- a file has that
  abbrev pub HoldsIn : StoreFile → D → D → Holding → Type 0
  HoldsIn (LogFile worker) old new holding = HoldsPlain worker holding
  HoldsIn (Numbered worker parity) old new holding = HoldsNumbered old new holding
  HoldsIn (Slot slot) old new holding = HoldsCheckpoint old new holding

  -- The report is of this file, as it was opened; or else it can't be read.
  pub record IsReported (file : StoreFile) (before after : Option (List FolderCall)) (report : FileReport) : Type 0 where
    pub name : report.file ≡ file
    pub holds : (report.holding ≡ Unread) ⊎ ((old new : D) × HoldsIn file old new report.holding
        × ((later : List FolderCall) × Adds before after (Opened (Store file) (state old) ∷ later)))

module _ {D : Type 0} (is_honest : D → Bool) (state : D → DiskState) where
  -- over disks that keep the rules: that a file agrees with its digest file, or doesn't
  abbrev pub Compares : D → D → Comparison → Type 0
  Compares disk digests Agrees = IsTrue (is_honest disk) → IsTrue (is_honest digests) → DoAgree (digest_in (state digests).image) (open_digest (state disk).image)
  Compares disk digests Differs = IsTrue (is_honest disk) → IsTrue (is_honest digests) → ¬ DoAgree (digest_in (state digests).image) (open_digest (state disk).image)
  Compares disk digests NoDigest = Unit {0}
