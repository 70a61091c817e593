-- A read of a `MemDisk` is a call that its plan allowed, also where it fails behind that.
use Rattle.std.proofs.Common.{rules}
use Rattle.mt_disk.specs.{Disk.IsToldToFail, Mem.plan_of}
use Rattle.mt_disk.proofs.mem.MemDiskDisk.read.Goals as goal

pub returns-clause-plan : goal.returns-clause-plan
returns-clause-plan c =
    let new = plan_of c.counted-2.new.self in
    let allowed : ¬ IsToldToFail new.fails new.stop new.calls = search rules in
    search rules
