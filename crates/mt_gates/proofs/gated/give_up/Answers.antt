-- The gate is closed for good before anything after it is cut away.
use Rattle.std.proofs.Common.{IsTrue, inl, sym, subst}
use Rattle.mt_disk.proofs.CrashLaws.{joined, widened}
use Rattle.mt_gates.specs.Gates.{IsClosed, IsLeftOf}
use Rattle.mt_gates.proofs.gated.give_up.Goals as goal

pub returns-in_err-shut-clause-leaves : goal.returns-in_err-shut-clause-leaves
returns-in_err-shut-clause-leaves g c honest text first some kept = c.shut.ensures.leaves honest text first some kept

pub returns-clause-leaves : goal.returns-clause-leaves
returns-clause-leaves g c honest text first some kept =
    let mid = g.D.Disk.state c.shut.new.disk in
    let new = g.D.Disk.state c.empty.new.disk in
    let still = subst IsTrue (sym c.shut.ensures.honest) honest in
    joined (IsLeftOf text) first mid new (c.shut.ensures.leaves honest text first some kept)
    (widened IsClosed (IsLeftOf text) mid new (λ image is. inl is) (c.empty.ensures.leaves still (c.in_ok-shut.ensures.shut honest)))

pub returns-clause-gone : goal.returns-clause-gone
returns-clause-gone g c honest =
    let still = subst IsTrue (sym c.shut.ensures.honest) honest in
    c.empty.ensures.gone still (c.in_ok-shut.ensures.shut honest)
