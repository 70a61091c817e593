use Rattle.std.proofs.Common.{◌≡◌, ◌+◌, rules, refl, arith}
use Rattle.mt_store_files.proofs.CallLemmas.{makes_none, made_next}
use Rattle.mt_store_files.proofs.folder.create_each.Goals as goal

pub loop-worker-init : goal.loop-worker-init
loop-worker-init g c = (search rules, makes_none (g.S.FolderSystem.calls c.args.system.now))

pub loop-worker-preserved : goal.loop-worker-preserved
loop-worker-preserved g c =
    let worker = c.loop-worker.worker in
    let same : c.from.result ≡ worker = omega arith in (
      search rules,
      made_next (g.S.FolderSystem.calls c.args.system.now) (g.S.FolderSystem.calls c.loop-worker.system) (g.S.FolderSystem.calls c.create_log.new.system)
          worker c.from.result (worker + 1) same refl c.loop-worker.invariant.1 c.in_ok-create_log.ensures.made,
    )
