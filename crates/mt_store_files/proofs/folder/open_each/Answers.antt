use Rattle.std.proofs.Common.{◌≡◌, ◌+◌, ◌++◌, ◌∷◌, [], rules, refl, sym, subst, arith}
use Rattle.mt_store_files.specs.FoundLogs.{AreFound}
use Rattle.mt_store_files.proofs.FoundLemmas.{found_none, found_next}
use Rattle.mt_store_files.proofs.folder.open_each.Goals as goal

pub loop-worker-init : goal.loop-worker-init
loop-worker-init g c =
    let calls = g.S.FolderSystem.calls c.args.system.now in
    let made = c.args.made.now.items in
    let none : c.new-files.result.items ≡ [] = search rules in (
      search rules,
      subst (λ files. AreFound g.S.File.Disk.is_honest g.S.File.Disk.state 0 files calls calls made made) (sym none) (found_none g.S.File.Disk.is_honest g.S.File.Disk.state calls made),
    )

pub loop-worker-preserved : goal.loop-worker-preserved
loop-worker-preserved g c =
    let worker = c.loop-worker.worker in
    let same : c.from.result ≡ worker = omega arith in
    let before = g.S.FolderSystem.calls c.args.system.now in
    let after = g.S.FolderSystem.calls c.open_log.new.system in
    let one = c.loop-worker.files.items ++ c.in_ok-open_log.field-0 ∷ [] in
    let pushed : c.push.new.self.items ≡ one = search rules in (
      search rules,
      subst (λ files. AreFound g.S.File.Disk.is_honest g.S.File.Disk.state (worker + 1) files before after c.args.made.now.items c.open_log.new.made.items) (sym pushed)
          (found_next g.S.File.Disk.is_honest g.S.File.Disk.state worker c.from.result (worker + 1) c.loop-worker.files.items c.in_ok-open_log.field-0
          before (g.S.FolderSystem.calls c.loop-worker.system) after c.args.made.now.items c.loop-worker.made.items c.open_log.new.made.items
          same refl c.loop-worker.invariant.1 c.in_ok-open_log.ensures.found),
    )
