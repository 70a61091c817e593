-- A cut of a `MemDisk` is a cut of a disk.
use Rattle.std.proofs.Common.{rules}
use Rattle.mt_disk.proofs.Images.{cut_off}
use Rattle.mt_disk.proofs.mem.MemDiskDisk.cut.Goals as goal

pub returns-clause-crash : goal.returns-clause-crash
returns-clause-crash c honest = cut_off _ _ c.args.len (search rules) (search rules) (search rules)
