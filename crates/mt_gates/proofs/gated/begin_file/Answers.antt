-- A closed gate is durable before anything after it is written, and nothing is written under any other gate.
use Rattle.std.proofs.Common.{IsTrue, inr, sym, ◌∙◌, subst}
use Rattle.mt_disk.proofs.CrashLaws.{joined}
use Rattle.mt_gates.specs.Gates.{IsLeftOf}
use Rattle.mt_gates.proofs.Crash.{was_shut, closed_rest, tried_sync, either_shut, either_begun}
use Rattle.mt_gates.proofs.gated.begin_file.Goals as goal

pub returns-in_default-clause-leaves : goal.returns-in_default-clause-leaves
returns-in_default-clause-leaves g c honest first kept =
    tried_sync c.args.text.now first (g.D.Disk.state c.args.disk.now) (g.D.Disk.state c.synced_gate.new.disk) kept (c.in_default.ensures.err honest)

pub returns-in_default-clause-over : goal.returns-in_default-clause-over
returns-in_default-clause-over g c honest other first some kept =
    let mid = g.D.Disk.state c.synced_gate.new.disk in
    either_shut other c.args.text.now first mid (tried_sync other first (g.D.Disk.state c.args.disk.now) mid kept (c.in_default.ensures.err honest))

pub returns-then-ne-clause-leaves : goal.returns-then-ne-clause-leaves
returns-then-ne-clause-leaves g c honest first kept =
    tried_sync c.args.text.now first (g.D.Disk.state c.args.disk.now) (g.D.Disk.state c.synced_gate.new.disk) kept (inr (c.in-Ok.ensures.ok.moves honest))

pub returns-then-ne-clause-over : goal.returns-then-ne-clause-over
returns-then-ne-clause-over g c honest other first some kept =
    let mid = g.D.Disk.state c.synced_gate.new.disk in
    either_shut other c.args.text.now first mid (tried_sync other first (g.D.Disk.state c.args.disk.now) mid kept (inr (c.in-Ok.ensures.ok.moves honest)))

pub returns-in-Err-clause-leaves : goal.returns-in-Err-clause-leaves
returns-in-Err-clause-leaves g c honest first kept =
    let s = g.D.Disk.state c.args.disk.now in
    let mid = g.D.Disk.state c.synced_gate.new.disk in
    let at = c.in-Ok.ensures.ok in
    let still = subst IsTrue (sym c.synced_gate.ensures.honest) honest in
    let rest = closed_rest s mid (at.moves honest) (sym (at.gate honest) ∙ was_shut c.in-Ok.gate (sym c.ne.ensures ∙ c.if-ne.false)) in
    joined (IsLeftOf c.args.text.now) first mid (g.D.Disk.state c.begin_shut.new.disk) (tried_sync c.args.text.now first s mid kept (inr (at.moves honest))) (c.begin_shut.ensures.leaves still rest)

pub returns-in-Err-clause-over : goal.returns-in-Err-clause-over
returns-in-Err-clause-over g c honest other first some kept =
    let s = g.D.Disk.state c.args.disk.now in
    let mid = g.D.Disk.state c.synced_gate.new.disk in
    let at = c.in-Ok.ensures.ok in
    let still = subst IsTrue (sym c.synced_gate.ensures.honest) honest in
    let rest = closed_rest s mid (at.moves honest) (sym (at.gate honest) ∙ was_shut c.in-Ok.gate (sym c.ne.ensures ∙ c.if-ne.false)) in
    either_begun other c.args.text.now first mid (tried_sync other first s mid kept (inr (at.moves honest))) (g.D.Disk.state c.begin_shut.new.disk) (c.begin_shut.ensures.leaves still rest)

pub returns-in-Ok-begin_shut-clause-leaves : goal.returns-in-Ok-begin_shut-clause-leaves
returns-in-Ok-begin_shut-clause-leaves g c honest first kept =
    let s = g.D.Disk.state c.args.disk.now in
    let mid = g.D.Disk.state c.synced_gate.new.disk in
    let at = c.in-Ok.ensures.ok in
    let still = subst IsTrue (sym c.synced_gate.ensures.honest) honest in
    let rest = closed_rest s mid (at.moves honest) (sym (at.gate honest) ∙ was_shut c.in-Ok.gate (sym c.ne.ensures ∙ c.if-ne.false)) in
    joined (IsLeftOf c.args.text.now) first mid (g.D.Disk.state c.begin_shut.new.disk) (tried_sync c.args.text.now first s mid kept (inr (at.moves honest))) (c.begin_shut.ensures.leaves still rest)

pub returns-in-Ok-begin_shut-clause-over : goal.returns-in-Ok-begin_shut-clause-over
returns-in-Ok-begin_shut-clause-over g c honest other first some kept =
    let s = g.D.Disk.state c.args.disk.now in
    let mid = g.D.Disk.state c.synced_gate.new.disk in
    let at = c.in-Ok.ensures.ok in
    let still = subst IsTrue (sym c.synced_gate.ensures.honest) honest in
    let rest = closed_rest s mid (at.moves honest) (sym (at.gate honest) ∙ was_shut c.in-Ok.gate (sym c.ne.ensures ∙ c.if-ne.false)) in
    either_begun other c.args.text.now first mid (tried_sync other first s mid kept (inr (at.moves honest))) (g.D.Disk.state c.begin_shut.new.disk) (c.begin_shut.ensures.leaves still rest)

pub returns-in-Ok-begin_shut-clause-begun : goal.returns-in-Ok-begin_shut-clause-begun
returns-in-Ok-begin_shut-clause-begun g c honest =
    let s = g.D.Disk.state c.args.disk.now in
    let mid = g.D.Disk.state c.synced_gate.new.disk in
    let at = c.in-Ok.ensures.ok in
    let still = subst IsTrue (sym c.synced_gate.ensures.honest) honest in
    let rest = closed_rest s mid (at.moves honest) (sym (at.gate honest) ∙ was_shut c.in-Ok.gate (sym c.ne.ensures ∙ c.if-ne.false)) in
    c.in-Ok-begin_shut.ensures.begun still rest
