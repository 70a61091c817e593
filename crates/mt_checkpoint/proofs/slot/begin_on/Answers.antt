-- The slot is cleared before anything is written.
use Rattle.std.proofs.Common.{IsTrue, inl, refl, sym, subst, None, ◌∷◌}
use Rattle.mt_disk.proofs.CrashLaws.{joined, widened}
use Rattle.mt_checkpoint.specs.Checkpoints.{IsClosed, IsOneOf}
use Rattle.mt_checkpoint.proofs.slot.begin_on.Goals as goal

pub returns-clause-leaves : goal.returns-clause-leaves
returns-clause-leaves g c honest may first kept =
    let mid = g.D.Disk.state c.clear.new.disk in
    let new = g.D.Disk.state c.write_head.new.disk in
    let still = subst IsTrue (sym c.clear.ensures.honest) honest in
    joined (IsOneOf (None ∷ may)) first mid new (c.clear.ensures.leaves honest may first kept)
    (widened IsClosed (IsOneOf (None ∷ may)) mid new (λ image is. inl (inl refl, is)) (c.write_head.ensures.leaves still (c.in_ok-clear.ensures.behind honest)))
