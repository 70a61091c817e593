-- A numbered file is that of a later generation.
use Rattle.std.proofs.Common.{Some, subst}
use Rattle.mt_log_files.specs.Slots.{OpensNumbered}
use Rattle.mt_store_logs.proofs.Reopening.{opened_later}
use Rattle.mt_store_logs.proofs.by_kind.open_later.Goals as goal

pub returns-in-Ok-Some-clause-ok : goal.returns-in-Ok-Some-clause-ok
returns-in-Ok-Some-clause-ok g c =
    let is_honest = g.D.Disk.is_honest in
    let state = g.D.Disk.state in
    let failures = g.D.Disk.failures in
    let found = subst (λ x. OpensNumbered is_honest state failures c.of.result (Some c.args.disk) c.open_numbered.new.slot x) c.in-Ok-Some.field-0-is c.in-Ok-Some.ensures.ok in
    opened_later is_honest state failures c.args.generation c.args.disk c.open_numbered.new.slot c.in-Ok-Some._front c.requires
    (subst (λ p. OpensNumbered is_honest state failures p (Some c.args.disk) c.open_numbered.new.slot (Some c.in-Ok-Some._front)) c.of.ensures found)
