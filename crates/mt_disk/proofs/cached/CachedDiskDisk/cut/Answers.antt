-- A cut may be made whatever is owed.
use Rattle.std.proofs.Common.{inr, refl}
use Rattle.mt_disk.proofs.cached.CachedDiskDisk.cut.Goals as goal

pub make-cut-requires : goal.make-cut-requires
make-cut-requires g c = inr (c.args.len, refl)
