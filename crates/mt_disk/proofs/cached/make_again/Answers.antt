-- The next change is made again, or all are owed.
use Rattle.std.proofs.{Common.{rules, ◌<◌, length, IsTrue, refl, sym, subst}, lemmas.Option.slice_get_read, lemmas.Result.err_from_is_err_and}
use Rattle.mt_disk.proofs.EditLaws.{next, stopped}
use Rattle.mt_disk.proofs.cached.make_again.Goals as goal

pub returns-in_err-make_next-clause-again : goal.returns-in_err-make_next-clause-again
returns-in_err-make_next-clause-again g c honest unsynced owed =
    let p = err_from_is_err_and c.from_residual.result c.from_residual.ensures.1 in
    let s = g.F.SystemFile.state c.args.file.now in
    let now = g.F.SystemFile.state c.loop-edit.file in
    let new = g.F.SystemFile.state c.make_next.new.file in
    let still = subst IsTrue (sym c.loop-edit.invariant.0) honest in
    let e = c.edit-item.result in
    let inside : c.loop-edit.edit-index < length c.args.edits.now = search rules in
    let at = slice_get_read c.args.edits.now (length c.args.edits.now) c.loop-edit.edit-index e refl inside c.edit-item.is in
    let made = c.in_err-make_next.ensures.again still in
    rw (p.1) (stopped s now new c.args.edits.now c.loop-edit.edit-index e c.in_err-make_next.field-0.0 at (c.loop-edit.invariant.1 honest unsynced owed) made)

pub loop-edit-preserved : goal.loop-edit-preserved
loop-edit-preserved g c = (
  search rules,
  λ honest unsynced owed.
      let s = g.F.SystemFile.state c.args.file.now in
      let now = g.F.SystemFile.state c.loop-edit.file in
      let new = g.F.SystemFile.state c.make_next.new.file in
      let still = subst IsTrue (sym c.loop-edit.invariant.0) honest in
      let e = c.edit-item.result in
      let inside : c.loop-edit.edit-index < length c.args.edits.now = search rules in
      let at = slice_get_read c.args.edits.now (length c.args.edits.now) c.loop-edit.edit-index e refl inside c.edit-item.is in
      next s now new c.args.edits.now c.loop-edit.edit-index e at (c.loop-edit.invariant.1 honest unsynced owed) (c.in_ok-make_next.ensures.again still),
)
