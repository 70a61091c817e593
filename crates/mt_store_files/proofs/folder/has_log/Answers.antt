use Rattle.std.proofs.Common.{◌∷◌, [], rules}
use Rattle.mt_store_files.specs.{declared.names.StoreFile.TheVariants.Log, declared.names.FolderFile.TheVariants.Store, Calls.{Looked, Looks}}
use Rattle.mt_store_files.proofs.CallLemmas.{on_ok, looks_more}
use Rattle.mt_store_files.proofs.folder.has_log.Goals as goal

pub returns-clause-looks : goal.returns-clause-looks
returns-clause-looks g c =
    let before = g.S.FolderSystem.calls c.args.system.now in
    let looked = g.S.FolderSystem.calls c.has.new.self in
    let call = Looked (Store (Log c.args.worker)) in
    let one : Looks before looked = (call ∷ [], search rules, c.in_ok-has.ensures.calls) in
    on_ok c.has_numbered.result (looks_more before looked (g.S.FolderSystem.calls c.has_numbered.new.system) one) c.has_numbered.ensures.looks
