-- A store's files compared with their digests.
use Rattle.std.specs.Prelude.{◌≡◌, ◌⊎◌, ℕ, Bool, IsTrue, List, [], ◌∷◌, ◌++◌, Option, Some, None, Result, MatchResult}
use Rattle.mt_disk.specs.Disk.{DiskState}
use Rattle.mt_slots.specs.declared.slot.Slot.TheVariants.{First, Second}
use Rattle.mt_digests.specs.{Digests.{digest_in, open_digest, DoAgree}, declared.fault.DigestFault.DigestFault}
use Rattle.mt_digests.specs.declared.fault.DigestFault.TheVariants as causes
use Rattle.mt_store_files.specs.{declared.names.StoreFile.StoreFile, declared.names.StoreFile.TheVariants.Slot, declared.names.FolderFile.TheVariants.{Store, Digest}}
use Rattle.mt_store_files.specs.{declared.fault.StoreFault.StoreFault, declared.fault.StoreFault.TheVariants.{Memory, Spoiled}}
use Rattle.mt_store_files.specs.{Calls.{FolderCall, Opened, Missed, Adds, open_call}, Faults.{IsOfFile, IsOfDisk}, FoundLogs.files_up_to}

-- the files that are compared, in their order: both slots, and the logs of so many workers
abbrev pub files_to_check : ℕ → List StoreFile
files_to_check workers = Slot First ∷ Slot Second ∷ files_up_to workers

-- why a file was not compared with its digest: as the disk tells it that failed, of which it is known whether memory was refused to it
abbrev pub IsOfDigestFault : Bool → Bool → StoreFile → DigestFault → StoreFault → Type 0
IsOfDigestFault refused digest_refused file causes.Device fault = IsOfDisk refused (Store file) fault
IsOfDigestFault refused digest_refused file causes.DigestDevice fault = IsOfDisk digest_refused (Digest file) fault
IsOfDigestFault refused digest_refused file causes.Memory fault = fault ≡ Memory

-- why a file is not found to agree with its digest
abbrev pub IsOfFileCheck : StoreFile → StoreFault → Type 0
IsOfFileCheck file (Spoiled other) = other ≡ file
IsOfFileCheck file fault = IsOfFile (Store file) fault ⊎ IsOfFile (Digest file) fault

module _ {D : Type 0} (is_honest : D → Bool) (state : D → DiskState) where
  -- the calls that look for the digest file, and if it is there for the file
  abbrev pub calls_to_compare : StoreFile → Option D → Option D → List FolderCall
  calls_to_compare file None disk = Missed (Digest file) ∷ []
  calls_to_compare file (Some digests) disk = Opened (Digest file) (state digests) ∷ open_call state (Store file) disk ∷ []

  -- a file agrees with its digest file, as both were opened
  abbrev pub Agree : D → D → Type 0
  Agree digests disk = DoAgree (digest_in (state digests).image) (open_digest (state disk).image)

  -- the same of disks that keep the rules, if both are there
  abbrev pub AgreeIfThere : Option D → Option D → Type 0
  AgreeIfThere (Some digests) (Some disk) = IsTrue (is_honest digests) → IsTrue (is_honest disk) → Agree digests disk
  AgreeIfThere digests disk = Unit {0}

  -- a file was looked at, and agrees with its digest if both are there
  pub record IsChecked (file : StoreFile) (before after : Option (List FolderCall)) : Type 0 where
    pub digests : Option D
    pub disk : Option D
    pub agree : AgreeIfThere digests disk
    pub calls : Adds before after (calls_to_compare file digests disk)

  -- a file and its digest file are there, and don't agree
  pub record IsSpoiled (file : StoreFile) (before after : Option (List FolderCall)) : Type 0 where
    pub digests : D
    pub disk : D
    pub disagree : IsTrue (is_honest digests) → IsTrue (is_honest disk) → Agree digests disk → ⊥
    pub calls : Adds before after (calls_to_compare file (Some digests) (Some disk))

  -- these files were checked, one after the other
  abbrev pub AreChecked : List StoreFile → Option (List FolderCall) → Option (List FolderCall) → Type 0
  AreChecked [] before after = after ≡ before
  AreChecked (file ∷ files) before after = (between : Option (List FolderCall)) × IsChecked file before between × AreChecked files between after

  -- of these files this one is the first that is spoiled, and no later one was looked at
  pub record IsFirstSpoiled (files : List StoreFile) (spoiled : StoreFile) (before after : Option (List FolderCall)) : Type 0 where
    pub passed : List StoreFile
    pub rest : List StoreFile
    pub between : Option (List FolderCall)
    pub parts : files ≡ passed ++ spoiled ∷ rest
    pub agree : AreChecked passed before between
    pub wrong : IsSpoiled spoiled between after

  -- why these files are not found to agree: if one is spoiled, the first that is
  abbrev pub FailsToCheck : List StoreFile → StoreFault → Option (List FolderCall) → Option (List FolderCall) → Type 0
  FailsToCheck files (Spoiled file) before after = IsFirstSpoiled files file before after
  FailsToCheck files fault before after = Unit {0}

  -- all of these files agree with their digests, as far as both are there; or why that isn't found
  abbrev pub Checks : {T : Type 0} → List StoreFile → Result T StoreFault → Option (List FolderCall) → Option (List FolderCall) → Type 0
  Checks files result before after = MatchResult result (λ _. AreChecked files before after) (λ e. FailsToCheck files e before after)
