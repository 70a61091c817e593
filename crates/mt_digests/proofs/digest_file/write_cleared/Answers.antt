-- The digest is durable after the closed gate before that is opened.
use Rattle.std.proofs.Common.{IsTrue, ℕ, List, length, inl, sym, ap, subst, arith}
use Rattle.mt_disk.{specs.Disk.LeavesOnly, proofs.CrashLaws.{joined, widened}}
use Rattle.mt_gates.specs.Gates.{IsClosed, IsLeftOf}
use Rattle.mt_digests.specs.Digests.{digest_bytes}
use Rattle.mt_digests.proofs.digest_file.write_cleared.Goals as goal

pub returns-in_err-stage-clause-leaves : goal.returns-in_err-stage-clause-leaves
returns-in_err-stage-clause-leaves g c honest rest =
    let s = g.D.Disk.state c.args.disk.now in
    let head = g.D.Disk.state c.write_head.new.disk in
    let new = g.D.Disk.state c.stage.new.disk in
    let still = subst IsTrue (sym c.write_head.ensures.honest) honest in
    widened IsClosed (IsLeftOf (digest_bytes c.args.digest)) s new (λ image is. inl is)
    (joined IsClosed s head new (c.write_head.ensures.leaves honest rest) (c.stage.ensures.leaves still c.text_of.result (c.in_ok-write_head.ensures.behind honest rest)))

pub returns-clause-leaves : goal.returns-clause-leaves
returns-clause-leaves g c honest rest =
    let s = g.D.Disk.state c.args.disk.now in
    let head = g.D.Disk.state c.write_head.new.disk in
    let staged = g.D.Disk.state c.stage.new.disk in
    let new = g.D.Disk.state c.open_gate.new.disk in
    let text = digest_bytes c.args.digest in
    let still = subst IsTrue (sym c.write_head.ensures.honest) honest in
    let ever = subst IsTrue (sym c.stage.ensures.honest) still in
    let behind = c.in_ok-write_head.ensures.behind honest rest in
    let closed = joined IsClosed s head staged (c.write_head.ensures.leaves honest rest) (c.stage.ensures.leaves still c.text_of.result behind) in
    let opened = c.open_gate.ensures.leaves ever c.text_of.result (omega (arith, ap length c.text_of.ensures)) (c.in_ok-stage.ensures.staged still c.text_of.result behind) in
    joined (IsLeftOf text) s staged new (widened IsClosed (IsLeftOf text) s staged (λ image is. inl is) closed)
    (subst (λ (l : List ℕ). LeavesOnly (IsLeftOf l) staged new) c.text_of.ensures opened)
