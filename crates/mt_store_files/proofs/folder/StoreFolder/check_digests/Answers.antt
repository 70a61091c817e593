use Rattle.std.proofs.Common.{◌≡◌, ◌∷◌, [], Err, rules, sym, subst}
use Rattle.mt_slots.specs.declared.slot.Slot.TheVariants.{First, Second}
use Rattle.mt_store_files.specs.{declared.names.StoreFile.TheVariants.Slot, FoundLogs.files_up_to, Checks.{files_to_check, Checks}}
use Rattle.mt_store_files.proofs.CheckLemmas.{checked_more, checks_after, fails_before, fails_after}
use Rattle.mt_store_files.proofs.folder.StoreFolder.check_digests.Goals as goal

pub returns-in_err-check_file-clause-checked : goal.returns-in_err-check_file-clause-checked
returns-in_err-check_file-clause-checked g c =
    let rest = Slot Second ∷ files_up_to c.args.logs in
    let before = g.S.FolderSystem.calls c.args.self.now.system in
    let one = g.S.FolderSystem.calls c.check_file.new.system in
    let e = c.in_err-check_file.field-0.0 in
    let is : c.from_residual.result ≡ Err e = search rules in
    let fails = fails_before g.S.File.Disk.is_honest g.S.File.Disk.state (Slot First ∷ []) rest e before one c.in_err-check_file.ensures.checked in
    subst (λ r. Checks g.S.File.Disk.is_honest g.S.File.Disk.state (files_to_check c.args.logs) r before one) (sym is) fails

pub returns-in_err-check_file-2-clause-checked : goal.returns-in_err-check_file-2-clause-checked
returns-in_err-check_file-2-clause-checked g c =
    let before = g.S.FolderSystem.calls c.args.self.now.system in
    let one = g.S.FolderSystem.calls c.check_file.new.system in
    let two = g.S.FolderSystem.calls c.check_file-2.new.system in
    let e = c.in_err-check_file-2.field-0.0 in
    let is : c.from_residual-in_err-check_file-2.result ≡ Err e = search rules in
    let second = fails_before g.S.File.Disk.is_honest g.S.File.Disk.state (Slot Second ∷ []) (files_up_to c.args.logs) e one two c.in_err-check_file-2.ensures.checked in
    let fails = fails_after g.S.File.Disk.is_honest g.S.File.Disk.state (Slot First ∷ []) (Slot Second ∷ files_up_to c.args.logs) e before one two c.in_ok-check_file.ensures.checked second in
    subst (λ r. Checks g.S.File.Disk.is_honest g.S.File.Disk.state (files_to_check c.args.logs) r before two) (sym is) fails

pub returns-clause-checked : goal.returns-clause-checked
returns-clause-checked g c =
    let before = g.S.FolderSystem.calls c.args.self.now.system in
    let one = g.S.FolderSystem.calls c.check_file.new.system in
    let two = g.S.FolderSystem.calls c.check_file-2.new.system in
    let after = g.S.FolderSystem.calls c.check_logs.new.system in
    let both = checked_more g.S.File.Disk.is_honest g.S.File.Disk.state (Slot First ∷ []) (Slot Second ∷ []) before one two c.in_ok-check_file.ensures.checked c.in_ok-check_file-2.ensures.checked in
    checks_after g.S.File.Disk.is_honest g.S.File.Disk.state (Slot First ∷ Slot Second ∷ []) (files_up_to c.args.logs) c.check_logs.result before two after both c.check_logs.ensures.checked
