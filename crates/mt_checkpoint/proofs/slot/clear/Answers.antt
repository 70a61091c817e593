-- The gate is closed before anything after it is cut.
use Rattle.std.proofs.Common.{IsTrue, inl, refl, sym, subst, None, ◌∷◌}
use Rattle.mt_disk.proofs.CrashLaws.{joined, widened}
use Rattle.mt_checkpoint.{specs.Checkpoints.{IsClosed, IsOneOf}, proofs.{Crash.rest_behind, Behind.shut_of}}
use Rattle.mt_checkpoint.proofs.slot.clear.Goals as goal

pub returns-clause-leaves : goal.returns-clause-leaves
returns-clause-leaves g c honest may first kept =
    let mid = g.D.Disk.state c.shut.new.disk in
    let new = g.D.Disk.state c.cut_behind.new.disk in
    let still = subst IsTrue (sym c.shut.ensures.honest) honest in
    let rest = c.in_ok-shut.ensures.shut honest in
    let closed = c.cut_behind.ensures.leaves still (shut_of rest.closed.behind mid (rest_behind mid rest)) in
    joined (IsOneOf (None ∷ may)) first mid new (c.shut.ensures.leaves honest may first kept)
    (widened IsClosed (IsOneOf (None ∷ may)) mid new (λ image is. inl (inl refl, is)) closed)
