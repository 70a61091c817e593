use Rattle.std.proofs.Common.{false}
use Rattle.mt_loop.specs.declared.table.Entry.{Entry}
use Rattle.mt_loop.proofs.Tables.{begun}
use Rattle.mt_loop.proofs.table.Table.begin.Goals.{in-Ok, in-Err}
use Rattle.mt_loop.proofs.table.Table.begin.Goals as goal

pub returns-clause-begun : goal.returns-clause-begun
returns-clause-begun g c =
    let entry : Entry g.row.S.Denot = record { stream = c.args.stream; connection = c.new.result; opened = c.opened.result; went_at = c.args.now; is_queued = false } in
    let session = begun g.C.Caller.exchanges g.C.Sharing.resumes g.C.Sharing.opened g.S.Stream.remaining g.S.Stream.contents entry c.args.caller.now c.new.ensures.fresh c.opened.ensures in
    elim c.match-insert.branch [
      | in-Ok w ↦ rw w.result-is (w.in-Ok.ensures.was_vacant, entry, w.in-Ok.ensures.updates, session)
      | in-Err w ↦ rw w.result-is tt
    ]
