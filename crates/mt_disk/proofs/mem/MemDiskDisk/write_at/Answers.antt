-- A write of a `MemDisk` is a write of a disk, also where it fails once its range was noted.
use Rattle.std.proofs.Common.{rules, ◌+◌, length}
use Rattle.mt_disk.{specs.Mem.mem_state, proofs.Images.{wrote, wrote_nothing, tried}}
use Rattle.mt_disk.proofs.mem.MemDiskDisk.write_at.Goals as goal

pub returns-in_err-counted-2-clause-crash : goal.returns-in_err-counted-2-clause-crash
returns-in_err-counted-2-clause-crash c honest =
    let old = mem_state c.args.self.now in
    let new = mem_state c.counted-2.new.self in
    tried _ _ _ _ (wrote_nothing old new (c.args.at, c.args.at + length c.args.bytes.now) (search rules) (search rules) (search rules))

pub returns-clause-crash : goal.returns-clause-crash
returns-clause-crash c honest =
    let old = mem_state c.args.self.now in
    let new = mem_state c.counted-2.new.self in
    wrote old new c.args.at c.args.bytes.now (search rules) (search rules) (search rules) (search rules)
