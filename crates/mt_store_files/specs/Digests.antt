-- The digest files of a store's folder: by which calls they are cleared and kept, and what is left of them.
use Rattle.std.specs.Prelude.{◌≡◌, ◌⊎◌, Bool, IsTrue, List, [], ◌∷◌, Option, Some, None}
use Rattle.mt_disk.specs.Disk.{DiskState, LeavesOnly}
use Rattle.mt_gates.specs.Gates.{IsLeftOf, IsLeftOfEither, IsGivenUp, HasDurably}
use Rattle.mt_digests.specs.{declared.file_digest.FileDigest.FileDigest, Digests.{digest_bytes, open_digest}}
use Rattle.mt_store_files.specs.{declared.names.StoreFile.StoreFile, declared.names.FolderFile.TheVariants.{Store, Digest}}
use Rattle.mt_store_files.specs.Calls.{FolderCall, Opened, Missed, Made, Synced, Adds, open_call}

module _ {D : Type 0} (is_honest : D → Bool) (state : D → DiskState) where
  -- A digest file was cleared that had been so: it has no digest, durably. Till then a crash left what it had, or none.
  pub record IsCleared (was : DiskState) (left : D) : Type 0 where
    pub cleared : IsTrue (is_honest left) → IsGivenUp (state left)
    pub leaves : IsTrue (is_honest left) → (other : FileDigest) (first : DiskState) → LeavesOnly (IsLeftOf (digest_bytes other)) first was
        → LeavesOnly (IsLeftOf (digest_bytes other)) first (state left)

  -- The digest file of a file isn't there; or it was opened and cleared.
  abbrev pub Clears : StoreFile → Option D → Option (List FolderCall) → Option (List FolderCall) → Type 0
  Clears file None before after = Adds before after (Missed (Digest file) ∷ [])
  Clears file (Some left) before after = (was : DiskState) × IsCleared was left × Adds before after (Opened (Digest file) was ∷ [])

  -- This digest was written into a file that had been so: it has that, durably. Till then a crash left what it had, this or none.
  pub record IsWritten (digest : FileDigest) (was : DiskState) (left : D) : Type 0 where
    pub written : IsTrue (is_honest left) → HasDurably (digest_bytes digest) (state left)
    pub leaves : IsTrue (is_honest left) → (other : FileDigest) (first : DiskState) → LeavesOnly (IsLeftOf (digest_bytes other)) first was
        → LeavesOnly (IsLeftOfEither (digest_bytes other) (digest_bytes digest)) first (state left)

  -- the digest file of a file was opened, or made and then the folder synced
  abbrev pub OpensOrMakes : StoreFile → DiskState → Option (List FolderCall) → Option (List FolderCall) → Type 0
  OpensOrMakes file was before after =
      Adds before after (Opened (Digest file) was ∷ []) ⊎ Adds before after (Missed (Digest file) ∷ Made (Digest file) was ∷ Synced ∷ [])

  -- this digest of a file was written into its digest file
  abbrev pub Keeps : StoreFile → FileDigest → D → Option (List FolderCall) → Option (List FolderCall) → Type 0
  Keeps file digest left before after = (was : DiskState) × IsWritten digest was left × OpensOrMakes file was before after

  -- the digest of a disk, if there is one and its gate is open
  abbrev pub HasOpenDigest : Option D → Option FileDigest → Type 0
  HasOpenDigest None digest = digest ≡ None
  HasOpenDigest (Some disk) digest = IsTrue (is_honest disk) → digest ≡ open_digest (state disk).image

  -- a file was opened, if it is there, and this is its digest
  abbrev pub FindsDigest : StoreFile → Option FileDigest → Option (List FolderCall) → Option (List FolderCall) → Type 0
  FindsDigest file digest before after = (disk : Option D) × HasOpenDigest disk digest × Adds before after (open_call state (Store file) disk ∷ [])

  -- the digest of a file was found and written into its digest file; or none was found
  abbrev pub KeepsFound : StoreFile → Option D → Option (List FolderCall) → Option (List FolderCall) → Type 0
  KeepsFound file None before after = FindsDigest file None before after
  KeepsFound file (Some left) before after =
      (digest : FileDigest) × (between : Option (List FolderCall)) × FindsDigest file (Some digest) before between × Keeps file digest left between after
