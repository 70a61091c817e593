use Rattle.std.proofs.Common.{◌≡◌, ◌+◌, ◌++◌, Err, rules, refl, sym, ap, ◌∙◌, subst, arith}
use Rattle.mt_store_files.specs.{FoundLogs.{files_of, files_up_to}, Checks.{AreChecked, FailsToCheck, Checks}}
use Rattle.mt_store_files.proofs.{CallLemmas.files_next, CheckLemmas.{up_to_more, checked_more, fails_before, fails_after}}
use Rattle.mt_store_files.proofs.digests.check_logs.Goals as goal

pub loop-worker-preserved : goal.loop-worker-preserved
loop-worker-preserved g c =
    let worker = c.loop-worker.worker in
    let same : c.from.result ≡ worker = omega arith in
    let before = g.S.FolderSystem.calls c.args.system.now in
    let mid = g.S.FolderSystem.calls c.loop-worker.system in
    let after = g.S.FolderSystem.calls c.check_log.new.system in
    subst (λ files. AreChecked g.S.File.Disk.is_honest g.S.File.Disk.state files before after) (sym (files_next worker c.from.result (worker + 1) same refl))
    (checked_more g.S.File.Disk.is_honest g.S.File.Disk.state (files_up_to worker) (files_of c.from.result) before mid after c.loop-worker.invariant c.in_ok-check_log.ensures.checked)

pub returns-in_err-check_log-clause-checked : goal.returns-in_err-check_log-clause-checked
returns-in_err-check_log-clause-checked g c =
    let worker = c.loop-worker.worker in
    let same : c.from.result ≡ worker = omega arith in
    let before = g.S.FolderSystem.calls c.args.system.now in
    let mid = g.S.FolderSystem.calls c.loop-worker.system in
    let after = g.S.FolderSystem.calls c.check_log.new.system in
    let e = c.in_err-check_log.field-0.0 in
    let is : c.from_residual.result ≡ Err e = search rules in
    let some = fails_after g.S.File.Disk.is_honest g.S.File.Disk.state (files_up_to worker) (files_of c.from.result) e before mid after c.loop-worker.invariant c.in_err-check_log.ensures.checked in
    let more = up_to_more (worker + 1) c.args.logs (omega arith) in
    let whole = more.1 ∙ ap (λ l. l ++ more.0) (files_next worker c.from.result (worker + 1) same refl) in
    let all = fails_before g.S.File.Disk.is_honest g.S.File.Disk.state (files_up_to worker ++ files_of c.from.result) more.0 e before after some in
    subst (λ r. Checks g.S.File.Disk.is_honest g.S.File.Disk.state (files_up_to c.args.logs) r before after) (sym is)
    (subst (λ files. FailsToCheck g.S.File.Disk.is_honest g.S.File.Disk.state files e before after) (sym whole) all)
