use Rattle.std.proofs.Common.{◌∷◌, [], refl, sym, rules}
use Rattle.std.proofs.lemmas.List.{append-nil}
use Rattle.mt_store_files.specs.{declared.names.FolderFile.TheVariants.Store, Calls.{Missed, Made}, Found.{WasThere, WasMissing}}
use Rattle.mt_store_files.proofs.CallLemmas.{adds_more}
use Rattle.mt_store_files.proofs.folder.open_or_make.Goals as goal

pub returns-in-Some-clause-found : goal.returns-in-Some-clause-found
returns-in-Some-clause-found g c =
    let opened = rw c.in-Some.is at c.in_ok-disk.ensures.calls in
    (WasThere c.args.file (g.S.File.Disk.state c.in-Some.disk), refl, record { name = refl; calls = opened; made = sym (append-nil c.args.made.now.items) })

pub returns-in_ok-fresh-in-None-clause-found : goal.returns-in_ok-fresh-in-None-clause-found
returns-in_ok-fresh-in-None-clause-found g c =
    let missed = rw c.in-None.is at c.in_ok-disk.ensures.calls in
    let file = c.args.file in
    let state = g.S.File.Disk.state c.in_ok-fresh-in-None.fresh in (
      WasMissing file state,
      refl,
      record {
        name = refl;
        calls = adds_more (g.S.FolderSystem.calls c.args.system.now) (g.S.FolderSystem.calls c.open.new.self) (g.S.FolderSystem.calls c.make.new.self) (Missed (Store file) ∷ []) (Made (Store file) state ∷ []) missed c.in_ok-fresh-in-None.ensures.calls;
        made = search rules;
      },
    )
