-- While something is owed, a sync that succeeds says nothing.
use Rattle.std.proofs.Common.{rules, ◌<◌, length, Ok, subst}
use Rattle.mt_disk.{specs.{Files.Syncs, MemFiles.mem_file_state}, proofs.EditLaws.{some_owed, syncs_nothing}}
use Rattle.mt_disk.proofs.mem_file.MemFileSystemFile.sync.Goals as goal

pub returns-then-not-fails-clause-syncs : goal.returns-then-not-fails-clause-syncs
returns-then-not-fails-clause-syncs c honest =
    let m = c.next_fails-fails.new.self in
    let owes : m.made < length m.unsynced.items = search rules in
    let same = c.next_fails-fails.ensures.state in
    subst (λ s. Syncs (Ok tt) s (mem_file_state m)) same (syncs_nothing (mem_file_state m) (mem_file_state m) (some_owed m.unsynced.items m.made owes))
