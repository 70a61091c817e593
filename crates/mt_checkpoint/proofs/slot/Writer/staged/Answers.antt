-- The walk stands behind the closed gate, and is read back.
use Rattle.std.proofs.{Common.{◌+◌, ◌-◌, ◌≤◌, ◌++◌, IsTrue, inl, refl, sym, ◌∙◌, ap, subst, arith}, lemmas.{Result.err_from_is_err_and, Bool.true≢false}}
use Rattle.mt_rows.specs.Rows.{Bytes}
use Rattle.mt_disk.specs.Disk.{GoesUp}
use Rattle.sha2.specs.Sha256.{sha256}
use Rattle.mt_digests.specs.declared.file_digest.FileDigest.{FileDigest}
use Rattle.mt_checkpoint.specs.declared.fault.FaultCause.TheVariants.{Device, Memory, NotAWalk, NotReadBack}
use Rattle.mt_checkpoint.proofs.Adding.{GoesOnBehind, WritesLast, stays_so, stops_so, goes_same, stages_so, read_so}
use Rattle.mt_checkpoint.proofs.slot.Writer.staged.Goals as goal

pub returns-then-not-may_end-clause-err : goal.returns-then-not-may_end-clause-err
returns-then-not-may_end-clause-err g c = stays_so g.D.Disk.is_honest g.D.Disk.state g.D.Disk.failures c.args.self.now c.args.self.now NotAWalk refl refl

pub returns-then-is_full-clause-err : goal.returns-then-is_full-clause-err
returns-then-is_full-clause-err g c = stays_so g.D.Disk.is_honest g.D.Disk.state g.D.Disk.failures c.args.self.now c.args.self.now Memory refl (inl refl)

pub returns-in_err-window-clause-err : goal.returns-in_err-window-clause-err
returns-in_err-window-clause-err g c =
    let p = err_from_is_err_and c.from_residual.result c.from_residual.ensures.1 in
    rw (p.1, p.2) (stays_so g.D.Disk.is_honest g.D.Disk.state g.D.Disk.failures c.args.self.now c.args.self.now Memory refl (inl refl))

pub returns-in_err-stage-clause-err : goal.returns-in_err-stage-clause-err
returns-in_err-stage-clause-err g c =
    let p = err_from_is_err_and c.from_residual-in_err-stage.result c.from_residual-in_err-stage.ensures.1 in
    rw (p.1, p.2) (stops_so g.D.Disk.is_honest g.D.Disk.state g.D.Disk.failures c.args.self.now (record c.args.self.now { disk = c.stage.new.disk }) Device
    (record { leaves = c.stage.ensures.leaves; shut = c.stage.ensures.shut; honest = c.stage.ensures.honest }) c.in_err-stage.ensures.count)

pub returns-in_err-reads_back-clause-err : goal.returns-in_err-reads_back-clause-err
returns-in_err-reads_back-clause-err g c =
    let old = c.args.self.now in
    let mid = (record c.args.self.now { disk = c.stage.new.disk }) in
    let new = (record c.args.self.now { disk = c.reads_back.new.disk; hash = c.finalize_reset.new.self }) in
    let p = err_from_is_err_and c.from_residual-in_err-reads_back.result c.from_residual-in_err-reads_back.ensures.1 in
    let goes : GoesOnBehind g.D.Disk.is_honest g.D.Disk.state g.D.Disk.failures old new = goes_same g.D.Disk.is_honest g.D.Disk.state g.D.Disk.failures old mid new
    (record { leaves = c.stage.ensures.leaves; shut = c.stage.ensures.shut; honest = c.stage.ensures.honest }) c.reads_back.ensures.same c.reads_back.ensures.honest in
    rw (p.1, p.2) (stops_so g.D.Disk.is_honest g.D.Disk.state g.D.Disk.failures old new Device goes
    (subst (λ n. GoesUp n (g.D.Disk.failures c.reads_back.new.disk)) c.in_ok-stage.ensures.count c.in_err-reads_back.ensures.count))

pub returns-then-branch-clause-ok : goal.returns-then-branch-clause-ok
returns-then-branch-clause-ok g c =
    let old = c.args.self.now in
    let mid = (record c.args.self.now { disk = c.stage.new.disk }) in
    let new = (record c.args.self.now { disk = c.reads_back.new.disk; hash = c.finalize_reset.new.self }) in
    let digest : FileDigest = record { len = old.end + 9 - 1; sha256 = c.finalize_reset.result } in
    let may = c.may_end.ensures.0 c.if-not-may_end.false in
    let goes : GoesOnBehind g.D.Disk.is_honest g.D.Disk.state g.D.Disk.failures old new = goes_same g.D.Disk.is_honest g.D.Disk.state g.D.Disk.failures old mid new
    (record { leaves = c.stage.ensures.leaves; shut = c.stage.ensures.shut; honest = c.stage.ensures.honest }) c.reads_back.ensures.same c.reads_back.ensures.honest in
    let w : WritesLast g.D.Disk.is_honest g.D.Disk.state g.D.Disk.failures old c.args.last mid digest = record {
      order = may.0;
      least = may.1;
      stamps = subst (λ n. n ≤ c.args.last) c.greatest.ensures may.2;
      staged = c.in_ok-stage.ensures.staged;
      len = omega arith;
      hash = λ m holds. c.finalize_reset.ensures.digest (m ++ c.last_entry.result) (c.update.ensures m holds) ∙ ap (λ (l : Bytes). sha256 (m ++ l)) c.last_entry.ensures;
    } in
    stages_so g.D.Disk.is_honest g.D.Disk.state g.D.Disk.failures old c.args.last mid digest w new (λ honest. c.reads_back.ensures.same (subst IsTrue (sym c.stage.ensures.honest) honest)) goes
    (c.in_ok-reads_back.ensures.count ∙ c.in_ok-stage.ensures.count)

pub returns-clause-err : goal.returns-clause-err
returns-clause-err g c =
    let old = c.args.self.now in
    let mid = (record c.args.self.now { disk = c.stage.new.disk }) in
    let new = (record c.args.self.now { disk = c.reads_back.new.disk; hash = c.finalize_reset.new.self }) in
    let goes : GoesOnBehind g.D.Disk.is_honest g.D.Disk.state g.D.Disk.failures old new = goes_same g.D.Disk.is_honest g.D.Disk.state g.D.Disk.failures old mid new
    (record { leaves = c.stage.ensures.leaves; shut = c.stage.ensures.shut; honest = c.stage.ensures.honest }) c.reads_back.ensures.same c.reads_back.ensures.honest in
    stops_so g.D.Disk.is_honest g.D.Disk.state g.D.Disk.failures old new NotReadBack goes (c.in_ok-reads_back.ensures.count ∙ c.in_ok-stage.ensures.count)

pub returns-clause-refused : goal.returns-clause-refused
returns-clause-refused g c honest pairs is =
    let old = c.args.self.now in
    let mid = (record c.args.self.now { disk = c.stage.new.disk }) in
    let digest : FileDigest = record { len = old.end + 9 - 1; sha256 = c.finalize_reset.result } in
    let may = c.may_end.ensures.0 c.if-not-may_end.false in
    let w : WritesLast g.D.Disk.is_honest g.D.Disk.state g.D.Disk.failures old c.args.last mid digest = record {
      order = may.0;
      least = may.1;
      stamps = subst (λ n. n ≤ c.args.last) c.greatest.ensures may.2;
      staged = c.in_ok-stage.ensures.staged;
      len = omega arith;
      hash = λ m holds. c.finalize_reset.ensures.digest (m ++ c.last_entry.result) (c.update.ensures m holds) ∙ ap (λ (l : Bytes). sha256 (m ++ l)) c.last_entry.ensures;
    } in
    let still = subst IsTrue (sym c.stage.ensures.honest) honest in
    true≢false (sym (read_so g.D.Disk.is_honest g.D.Disk.state g.D.Disk.failures old c.args.last mid digest w c.in_ok-reads_back.field-0 honest pairs is
    (λ gate text at. (c.in_ok-reads_back.ensures.told still gate text at).1)) ∙ c.if-branch.false)
