-- The pairs follow those before, or the call is stopped behind the closed gate.
use Rattle.std.proofs.{Common.{◌≡◌, ◌+◌, ◌++◌, length, inl, refl, sym, ◌∙◌, ap, subst}, lemmas.Result.err_from_is_err_and}
use Rattle.mt_rows.specs.Rows.{Bytes}
use Rattle.mt_checkpoint.specs.Checkpoints.{IsBehindGate}
use Rattle.mt_checkpoint.specs.declared.fault.FaultCause.TheVariants.{Device, Memory, NotAWalk}
use Rattle.mt_checkpoint.proofs.Adding.{stays_so, stops_so, added_so}
use Rattle.mt_checkpoint.proofs.slot.Writer.added.Goals as goal

pub returns-then-is_full-clause-err : goal.returns-then-is_full-clause-err
returns-then-is_full-clause-err g c = stays_so g.D.Disk.is_honest g.D.Disk.state g.D.Disk.failures c.args.self.now c.args.self.now Memory refl (inl refl)

pub returns-in_err-block-clause-err : goal.returns-in_err-block-clause-err
returns-in_err-block-clause-err g c =
    let p = err_from_is_err_and c.from_residual.result c.from_residual.ensures.1 in
    rw (p.1, p.2) (stays_so g.D.Disk.is_honest g.D.Disk.state g.D.Disk.failures c.args.self.now c.args.self.now Memory refl (inl refl))

pub returns-in_err-take-clause-err : goal.returns-in_err-take-clause-err
returns-in_err-take-clause-err g c =
    let p = err_from_is_err_and c.from_residual-in_err-take.result c.from_residual-in_err-take.ensures.1 in
    rw (p.1, p.2) (stays_so g.D.Disk.is_honest g.D.Disk.state g.D.Disk.failures c.args.self.now (record c.args.self.now { seen = c.take.new.self }) Memory refl (inl refl))

pub returns-then-not-branch-clause-err : goal.returns-then-not-branch-clause-err
returns-then-not-branch-clause-err g c = stays_so g.D.Disk.is_honest g.D.Disk.state g.D.Disk.failures c.args.self.now (record c.args.self.now { seen = c.take.new.self }) NotAWalk refl refl

pub returns-in_err-self-clause-err : goal.returns-in_err-self-clause-err
returns-in_err-self-clause-err g c =
    let p = err_from_is_err_and c.from_residual-in_err-self.result c.from_residual-in_err-self.ensures.1 in
    rw (p.1, p.2) (stops_so g.D.Disk.is_honest g.D.Disk.state g.D.Disk.failures c.args.self.now (record c.args.self.now { disk = c.write_bounded.new.disk; seen = c.take.new.self }) Device
    (record { leaves = c.write_bounded.ensures.leaves; shut = c.write_bounded.ensures.shut; honest = c.write_bounded.ensures.honest }) c.in_err-self.ensures.count)

pub returns-clause-ok : goal.returns-clause-ok
returns-clause-ok g c =
    let block = c.in_ok-block.block.items in
    let same : c.deref.result.now ≡ block = c.deref.ensures.value in
    let size : c.len.result ≡ length block = c.len.ensures ∙ sym c.deref.ensures.len ∙ ap length same in
    added_so g.D.Disk.is_honest g.D.Disk.state g.D.Disk.failures c.args.self.now c.args.pairs.now _ (record {
      block = block;
      entries = c.in_ok-block.ensures.ok;
      first_is = refl;
      end = ap (λ n. c.args.self.now.end + n) size;
      seen = λ before seen. (c.in_ok-take.ensures before seen).1 c.if-not-branch.false;
      hashed = c.update.ensures;
      behind = λ honest text at end. subst (λ (b : Bytes). IsBehindGate (text ++ b) (g.D.Disk.state c.write_bounded.new.disk)) same (c.in_ok-self.ensures.behind honest text at end);
      leaves = c.write_bounded.ensures.leaves;
      owed = c.in_ok-self.ensures.debt;
      bounded = c.in_ok-self.ensures.bounded;
      count = c.in_ok-self.ensures.count;
      honest = c.write_bounded.ensures.honest;
    })
