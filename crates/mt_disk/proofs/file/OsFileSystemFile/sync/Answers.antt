-- The last call is the sync, after those that write the length if that is in doubt.
use Rattle.std.proofs.Common.{rules, ◌≡◌, inl, inr, true, false, Ok, subst}
use Rattle.mt_disk.specs.FileCalls.{OsFileState, WritesLength}
use Rattle.mt_disk.proofs.FileCallLaws.{syncs}
use Rattle.mt_disk.proofs.file.OsFileSystemFile.sync.Goals.{then-self+in_ok-write_length, else-self}
use Rattle.mt_disk.proofs.file.OsFileSystemFile.sync.Goals as goal

pub returns : goal.returns
returns g c =
    let old = c.args.self.now in
    let mid : OsFileState = record { made = g.C.FileCalls.made c.self-2.inside.calls; is_doubtful = c.self-2.inside.is_doubtful; last_error = c.self-2.inside.last_error } in
    syncs old.is_doubtful c.sync_all-synced.result c.told.result old mid _ (
    elim c.if-self.branch [
      | then-self+in_ok-write_length w ↦
          let doubtful : old.is_doubtful ≡ true = search rules in
          let there : w.write_length.new.self ≡ mid = search rules in
          inr (doubtful, subst (λ (m : OsFileState). WritesLength (Ok tt) old m) there w.in_ok-write_length.ensures)
      | else-self w ↦
          let sure : old.is_doubtful ≡ false = search rules in
          let there : old ≡ mid = search rules in
          inl (sure, there)
    ]
    ) c.sync_all-synced.ensures c.told.ensures.ok c.told.ensures.err c.is_err-self-inside.ensures.value
