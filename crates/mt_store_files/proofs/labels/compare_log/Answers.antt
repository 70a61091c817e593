use Rattle.std.proofs.Common.{◌≡◌, ◌∷◌, [], Err, rules, sym, subst, arith}
use Rattle.mt_log_generations.specs.declared.header.Parity.TheVariants.{Even, Odd}
use Rattle.mt_store_files.specs.{declared.names.StoreFile.TheVariants.{Log, Numbered}, FoundLogs.files_of, Strange.ComparesHeaders}
use Rattle.mt_store_files.proofs.StrangeLemmas.{expected_more, compares_after, strange_before, strange_after}
use Rattle.mt_store_files.proofs.labels.compare_log.Goals as goal

pub returns-in_err-compare_file : goal.returns-in_err-compare_file
returns-in_err-compare_file g c =
    let logs = c.args.expected.logs in
    let worker = c.from-worker.result in
    let same : worker ≡ c.args.expected.worker = omega arith in
    let before = g.S.FolderSystem.calls c.args.system.now in
    let one = g.S.FolderSystem.calls c.compare_file.new.system in
    let s = c.in_err-compare_file.field-0.0 in
    let is : c.from_residual.result ≡ Err s = search rules in
    let first = strange_before g.S.File.Disk.is_honest g.S.File.Disk.state logs (Log worker ∷ []) (Numbered worker Even ∷ Numbered worker Odd ∷ []) s before one c.in_err-compare_file.ensures in
    subst (λ w. ComparesHeaders g.S.File.Disk.is_honest g.S.File.Disk.state logs (files_of w) c.from_residual.result before one) same
    (subst (λ r. ComparesHeaders g.S.File.Disk.is_honest g.S.File.Disk.state logs (files_of worker) r before one) (sym is) first)

pub returns-in_err-compare_file-2 : goal.returns-in_err-compare_file-2
returns-in_err-compare_file-2 g c =
    let logs = c.args.expected.logs in
    let worker = c.from-worker.result in
    let same : worker ≡ c.args.expected.worker = omega arith in
    let before = g.S.FolderSystem.calls c.args.system.now in
    let one = g.S.FolderSystem.calls c.compare_file.new.system in
    let two = g.S.FolderSystem.calls c.compare_file-2.new.system in
    let s = c.in_err-compare_file-2.field-0.0 in
    let is : c.from_residual-in_err-compare_file-2.result ≡ Err s = search rules in
    let second = strange_before g.S.File.Disk.is_honest g.S.File.Disk.state logs (Numbered worker Even ∷ []) (Numbered worker Odd ∷ []) s one two c.in_err-compare_file-2.ensures in
    let first = strange_after g.S.File.Disk.is_honest g.S.File.Disk.state logs (Log worker ∷ []) (Numbered worker Even ∷ Numbered worker Odd ∷ []) s before one two c.in_ok-compare_file.ensures second in
    subst (λ w. ComparesHeaders g.S.File.Disk.is_honest g.S.File.Disk.state logs (files_of w) c.from_residual-in_err-compare_file-2.result before two) same
    (subst (λ r. ComparesHeaders g.S.File.Disk.is_honest g.S.File.Disk.state logs (files_of worker) r before two) (sym is) first)

pub returns : goal.returns
returns g c =
    let logs = c.args.expected.logs in
    let worker = c.from-worker.result in
    let same : worker ≡ c.args.expected.worker = omega arith in
    let before = g.S.FolderSystem.calls c.args.system.now in
    let one = g.S.FolderSystem.calls c.compare_file.new.system in
    let two = g.S.FolderSystem.calls c.compare_file-2.new.system in
    let after = g.S.FolderSystem.calls c.compare_file-3.new.system in
    let both = expected_more g.S.File.Disk.is_honest g.S.File.Disk.state logs (Log worker ∷ []) (Numbered worker Even ∷ []) before one two c.in_ok-compare_file.ensures c.in_ok-compare_file-2.ensures in
    subst (λ w. ComparesHeaders g.S.File.Disk.is_honest g.S.File.Disk.state logs (files_of w) c.compare_file-3.result before after) same
    (compares_after g.S.File.Disk.is_honest g.S.File.Disk.state logs (Log worker ∷ Numbered worker Even ∷ []) (Numbered worker Odd ∷ []) c.compare_file-3.result before two after both c.compare_file-3.ensures)
