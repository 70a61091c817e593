-- Why a store isn't served: the refusal, the exit status, and which calls may tell what.
use Rattle.std.specs.Prelude.{◌≡◌, ◌↔◌, ℕ, ◌<◌, Bool, IsTrue, Some, None}
use Rattle.mt_rows.specs.declared.refusal.Refusal.{Refusal}
use Rattle.mt_store_files.specs.{declared.names.StoreFile.StoreFile, declared.names.StoreFile.TheVariants.{Log, Numbered, Slot}, declared.fault.StoreFault.StoreFault}
use Rattle.mt_store_files.specs.{declared.names.FolderFile.FolderFile, declared.names.FolderFile.TheVariants.{Store, Digest}}
use Rattle.mt_store_files.specs.declared.fault.StoreFault.TheVariants.{InUse, NoFolder, NoLog, System, Memory, LogCount, Strange, Missing, Refused, RefusedLog, Device, Spoiled}
use Rattle.mt_rows.specs.declared.refusal.Refusal.TheVariants as refusals

-- the refusal by whose number a fault is told
abbrev pub refusal_of : StoreFault → Refusal
refusal_of InUse = refusals.Device
refusal_of NoFolder = refusals.LogCount
refusal_of (NoLog worker counts) = refusals.LogCount
refusal_of (System file error) = refusals.Device
refusal_of Memory = refusals.Memory
refusal_of (LogCount counts) = refusals.LogCount
refusal_of (Strange strange counts) = refusals.LogCount
refusal_of (Missing files) = refusals.LogCount
refusal_of (Refused file refusal) = refusal
refusal_of (RefusedLog suspects refusal) = refusal
refusal_of (Device file error) = refusals.Device
refusal_of (Spoiled file) = refusals.LogCount

-- 1 where the device or memory failed, 3 where the store is refused
abbrev pub status_of : StoreFault → ℕ
status_of (System file error) = 1
status_of Memory = 1
status_of (Refused file refusals.Device) = 1
status_of (Refused file refusals.Memory) = 1
status_of (RefusedLog suspects refusals.Device) = 1
status_of (RefusedLog suspects refusals.Memory) = 1
status_of (Device file error) = 1
status_of fault = 3

-- why a folder isn't opened
abbrev pub IsOfFolder : StoreFault → Type 0
IsOfFolder InUse = Unit {0}
IsOfFolder NoFolder = Unit {0}
IsOfFolder (System None error) = Unit {0}
IsOfFolder Memory = Unit {0}
IsOfFolder fault = ⊥

-- why a folder isn't synced
abbrev pub IsOfSync : StoreFault → Type 0
IsOfSync (System None error) = Unit {0}
IsOfSync fault = ⊥

-- a file of the log of one of so many workers
abbrev pub IsOfWorkers : ℕ → StoreFile → Type 0
IsOfWorkers workers (Log worker) = worker < workers
IsOfWorkers workers (Numbered worker parity) = worker < workers
IsOfWorkers workers file = ⊥

-- why the files of so many logs aren't opened or made; of one that is missing it is told how many were asked for
abbrev pub IsOfFiles : ℕ → StoreFault → Type 0
IsOfFiles logs (NoLog worker counts) = (worker < logs) × (counts.workers ≡ logs)
IsOfFiles logs (System (Some (Store file)) error) = IsOfWorkers logs file
IsOfFiles logs (System None error) = Unit {0}
IsOfFiles logs (Device (Store file) error) = IsOfWorkers logs file
IsOfFiles logs Memory = Unit {0}
IsOfFiles logs fault = ⊥

-- a file of this worker's log
abbrev pub IsFileOf : ℕ → StoreFile → Type 0
IsFileOf worker (Log other) = other ≡ worker
IsFileOf worker (Numbered other parity) = other ≡ worker
IsFileOf worker file = ⊥

-- why the files of one worker's log aren't opened, made or removed
abbrev pub IsOfLog : ℕ → StoreFault → Type 0
IsOfLog worker (System (Some (Store file)) error) = IsFileOf worker file
IsOfLog worker (Device (Store file) error) = IsFileOf worker file
IsOfLog worker Memory = Unit {0}
IsOfLog worker fault = ⊥

-- why the files of both slots aren't opened or made
abbrev pub IsOfSlots : StoreFault → Type 0
IsOfSlots (System (Some (Store (Slot slot))) error) = Unit {0}
IsOfSlots (System None error) = Unit {0}
IsOfSlots (Device (Store (Slot slot)) error) = Unit {0}
IsOfSlots Memory = Unit {0}
IsOfSlots fault = ⊥

-- why one file of the folder isn't opened, made or removed
abbrev pub IsOfFile : FolderFile → StoreFault → Type 0
IsOfFile file (System (Some other) error) = other ≡ file
IsOfFile file (Device other error) = other ≡ file
IsOfFile file Memory = Unit {0}
IsOfFile file fault = ⊥

-- why a disk failed on which this file stands: it is told as want of memory exactly if memory was refused to the disk
pub record IsOfDisk (refused : Bool) (file : FolderFile) (fault : StoreFault) : Type 0 where
  pub place : IsOfFile file fault
  pub memory : (fault ≡ Memory) ↔ IsTrue refused

-- a slot, or a file of the log of one of so many workers
abbrev pub IsOfStore : ℕ → StoreFile → Type 0
IsOfStore workers (Slot slot) = Unit {0}
IsOfStore workers file = IsOfWorkers workers file

-- why the digest files of slots and of so many logs aren't removed
abbrev pub IsOfDigests : ℕ → StoreFault → Type 0
IsOfDigests logs (System (Some (Digest file)) error) = IsOfStore logs file
IsOfDigests logs (Device (Digest file) error) = IsOfStore logs file
IsOfDigests logs Memory = Unit {0}
IsOfDigests logs fault = ⊥

-- why files of slots and of so many logs are not found to agree with their digests
abbrev pub IsOfCheck : ℕ → StoreFault → Type 0
IsOfCheck logs (System (Some (Store file)) error) = IsOfStore logs file
IsOfCheck logs (Device (Store file) error) = IsOfStore logs file
IsOfCheck logs (Spoiled file) = IsOfStore logs file
IsOfCheck logs fault = IsOfDigests logs fault
