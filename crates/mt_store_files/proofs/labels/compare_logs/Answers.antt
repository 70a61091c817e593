use Rattle.std.proofs.Common.{◌≡◌, ◌+◌, ◌++◌, Err, rules, refl, sym, ap, ◌∙◌, subst, arith}
use Rattle.mt_store_files.specs.{FoundLogs.{files_of, files_up_to}, Strange.{HaveExpected, IsFirstStrange, ComparesHeaders}}
use Rattle.mt_store_files.proofs.{CallLemmas.files_next, CheckLemmas.up_to_more, StrangeLemmas.{expected_more, strange_before, strange_after}}
use Rattle.mt_store_files.proofs.labels.compare_logs.Goals as goal

pub loop-worker-preserved : goal.loop-worker-preserved
loop-worker-preserved g c =
    let logs = c.args.logs in
    let worker = c.loop-worker.worker in
    let before = g.S.FolderSystem.calls c.args.system.now in
    let mid = g.S.FolderSystem.calls c.loop-worker.system in
    let after = g.S.FolderSystem.calls c.compare_log.new.system in
    subst (λ files. HaveExpected g.S.File.Disk.is_honest g.S.File.Disk.state logs files before after) (sym (files_next worker worker (worker + 1) refl refl))
    (expected_more g.S.File.Disk.is_honest g.S.File.Disk.state logs (files_up_to worker) (files_of worker) before mid after c.loop-worker.invariant c.in_ok-compare_log.ensures)

pub returns-in_err-compare_log : goal.returns-in_err-compare_log
returns-in_err-compare_log g c =
    let logs = c.args.logs in
    let worker = c.loop-worker.worker in
    let before = g.S.FolderSystem.calls c.args.system.now in
    let mid = g.S.FolderSystem.calls c.loop-worker.system in
    let after = g.S.FolderSystem.calls c.compare_log.new.system in
    let s = c.in_err-compare_log.field-0.0 in
    let is : c.from_residual.result ≡ Err s = search rules in
    let some = strange_after g.S.File.Disk.is_honest g.S.File.Disk.state logs (files_up_to worker) (files_of worker) s before mid after c.loop-worker.invariant c.in_err-compare_log.ensures in
    let more = up_to_more (worker + 1) logs (omega arith) in
    let whole = more.1 ∙ ap (λ l. l ++ more.0) (files_next worker worker (worker + 1) refl refl) in
    let all = strange_before g.S.File.Disk.is_honest g.S.File.Disk.state logs (files_up_to worker ++ files_of worker) more.0 s before after some in
    subst (λ r. ComparesHeaders g.S.File.Disk.is_honest g.S.File.Disk.state logs (files_up_to logs) r before after) (sym is)
    (subst (λ files. IsFirstStrange g.S.File.Disk.is_honest g.S.File.Disk.state logs files s before after) (sym whole) all)
