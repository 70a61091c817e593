use Rattle.std.proofs.Common.{◌≡◌, ◌∷◌, [], map, subst, rules}
use Rattle.mt_store_files.specs.Calls.{removal, Synced, Tries}
use Rattle.mt_store_files.proofs.CallLemmas.{tries_more, tries_one}
use Rattle.mt_store_files.proofs.folder.StoreFolder.refused.Goals as goal

pub returns-clause-removed : goal.returns-clause-removed
returns-clause-removed g c =
    let before = g.S.FolderSystem.calls c.args.self.now.system in
    let removed = g.S.FolderSystem.calls c.remove_each.new.system in
    let after = g.S.FolderSystem.calls c.sync.new.self in
    let made : c.as_slice.result.now ≡ c.args.self.now.made.items = search rules in
    let each = subst (λ files. Tries (map removal files) before removed) made c.remove_each.ensures in
    tries_more before removed after (map removal c.args.self.now.made.items) (Synced ∷ []) each (tries_one c.sync.result removed after Synced c.sync.ensures.calls)
