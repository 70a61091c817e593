use Rattle.std.proofs.Common.{sym}
use Rattle.mt_store_files.proofs.file_report.slot_holding.Goals as goal

pub returns-in-Ok-Some : goal.returns-in-Ok-Some
returns-in-Ok-Some g c =
    let read = rw c.in-Ok-Some.field-0-is at c.in-Ok-Some.ensures.ok in
    (c.in-Ok-Some.seen, read, sym c.first.ensures, sym c.last.ensures)
