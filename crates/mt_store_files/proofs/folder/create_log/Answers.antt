use Rattle.std.proofs.Common.{◌∷◌, [], refl}
use Rattle.mt_log_generations.specs.declared.header.Parity.TheVariants.{Even, Odd}
use Rattle.mt_store_files.specs.{declared.names.StoreFile.TheVariants.{Log, Numbered}, declared.names.FolderFile.TheVariants.Store, Calls.Made}
use Rattle.mt_store_files.proofs.CallLemmas.{adds_more}
use Rattle.mt_store_files.proofs.folder.create_log.Goals as goal

pub returns-clause-made : goal.returns-clause-made
returns-clause-made g c =
    let worker = c.args.worker in
    let plain = g.S.File.Disk.state c.in_ok-plain.plain in
    let even = g.S.File.Disk.state c.in_ok-even.even in
    let odd = g.S.File.Disk.state c.in_ok-odd.odd in
    let before = g.S.FolderSystem.calls c.args.system.now in
    let one = g.S.FolderSystem.calls c.make.new.self in
    let two = g.S.FolderSystem.calls c.make-2.new.self in
    let three = g.S.FolderSystem.calls c.make-3.new.self in
    let calls = adds_more before one two (Made (Store (Log worker)) plain ∷ []) (Made (Store (Numbered worker Even)) even ∷ []) c.in_ok-plain.ensures.calls c.in_ok-even.ensures.calls in (
      Made (Store (Log worker)) plain ∷ Made (Store (Numbered worker Even)) even ∷ Made (Store (Numbered worker Odd)) odd ∷ [],
      ((plain, refl), ((even, refl), ((odd, refl), tt))),
      adds_more before two three (Made (Store (Log worker)) plain ∷ Made (Store (Numbered worker Even)) even ∷ []) (Made (Store (Numbered worker Odd)) odd ∷ []) calls c.in_ok-odd.ensures.calls,
    )
