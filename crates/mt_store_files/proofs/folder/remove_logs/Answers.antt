use Rattle.std.proofs.Common.{◌≡◌, subst, arith}
use Rattle.std.specs.List.{flat_map}
use Rattle.mt_store_files.specs.{Calls.{Adds, removals}, FoundLogs.files_up_to}
use Rattle.mt_store_files.proofs.folder.remove_logs.Goals as goal

pub returns-clause-removed : goal.returns-clause-removed
returns-clause-removed g c =
    let all : c.loop-worker.worker ≡ 64 = omega arith in
    subst (λ workers. Adds (g.S.FolderSystem.calls c.args.system.now) (g.S.FolderSystem.calls c.loop-worker.system) (flat_map removals (files_up_to workers))) all c.loop-worker.invariant
