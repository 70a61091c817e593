-- What a file is before it is read.
use Rattle.std.specs.Prelude.{◌≡◌, ◌≢◌, []}
use Rattle.mt_disk.specs.Disk.{DiskState}

-- a disk without a byte was made this; any other is as it was
pub record IsMadeIfEmpty (IsMade : DiskState → Type 0) (old new : DiskState) : Type 0 where
  pub empty : old.image ≡ [] → IsMade new
  pub other : old.image ≢ [] → new ≡ old
