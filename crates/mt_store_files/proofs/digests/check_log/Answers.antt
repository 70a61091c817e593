use Rattle.std.proofs.Common.{◌≡◌, ◌∷◌, [], Err, rules, sym, subst}
use Rattle.mt_log_generations.specs.declared.header.Parity.TheVariants.{Even, Odd}
use Rattle.mt_store_files.specs.{declared.names.StoreFile.TheVariants.{Log, Numbered}, FoundLogs.files_of, Checks.Checks}
use Rattle.mt_store_files.proofs.CheckLemmas.{checked_more, checks_after, fails_before, fails_after}
use Rattle.mt_store_files.proofs.digests.check_log.Goals as goal

pub returns-in_err-check_file-clause-checked : goal.returns-in_err-check_file-clause-checked
returns-in_err-check_file-clause-checked g c =
    let worker = c.args.worker in
    let before = g.S.FolderSystem.calls c.args.system.now in
    let one = g.S.FolderSystem.calls c.check_file.new.system in
    let is : c.from_residual.result ≡ Err c.in_err-check_file.field-0.0 = search rules in
    let fails = fails_before g.S.File.Disk.is_honest g.S.File.Disk.state (Log worker ∷ []) (Numbered worker Even ∷ Numbered worker Odd ∷ []) c.in_err-check_file.field-0.0 before one c.in_err-check_file.ensures.checked in
    subst (λ r. Checks g.S.File.Disk.is_honest g.S.File.Disk.state (files_of worker) r before one) (sym is) fails

pub returns-in_err-check_file-2-clause-checked : goal.returns-in_err-check_file-2-clause-checked
returns-in_err-check_file-2-clause-checked g c =
    let worker = c.args.worker in
    let before = g.S.FolderSystem.calls c.args.system.now in
    let one = g.S.FolderSystem.calls c.check_file.new.system in
    let two = g.S.FolderSystem.calls c.check_file-2.new.system in
    let e = c.in_err-check_file-2.field-0.0 in
    let is : c.from_residual-in_err-check_file-2.result ≡ Err e = search rules in
    let second = fails_before g.S.File.Disk.is_honest g.S.File.Disk.state (Numbered worker Even ∷ []) (Numbered worker Odd ∷ []) e one two c.in_err-check_file-2.ensures.checked in
    let fails = fails_after g.S.File.Disk.is_honest g.S.File.Disk.state (Log worker ∷ []) (Numbered worker Even ∷ Numbered worker Odd ∷ []) e before one two c.in_ok-check_file.ensures.checked second in
    subst (λ r. Checks g.S.File.Disk.is_honest g.S.File.Disk.state (files_of worker) r before two) (sym is) fails

pub returns-clause-checked : goal.returns-clause-checked
returns-clause-checked g c =
    let worker = c.args.worker in
    let before = g.S.FolderSystem.calls c.args.system.now in
    let one = g.S.FolderSystem.calls c.check_file.new.system in
    let two = g.S.FolderSystem.calls c.check_file-2.new.system in
    let after = g.S.FolderSystem.calls c.check_file-3.new.system in
    let both = checked_more g.S.File.Disk.is_honest g.S.File.Disk.state (Log worker ∷ []) (Numbered worker Even ∷ []) before one two c.in_ok-check_file.ensures.checked c.in_ok-check_file-2.ensures.checked in
    checks_after g.S.File.Disk.is_honest g.S.File.Disk.state (Log worker ∷ Numbered worker Even ∷ []) (Numbered worker Odd ∷ []) c.check_file-3.result before two after both c.check_file-3.ensures.checked
