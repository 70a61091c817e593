-- Whatever an opening has left, the slot then has none, or this checkpoint whole.
use Rattle.std.proofs.Common.{IsTrue, inl, refl, sym, subst, Some, None, [], ◌∷◌}
use Rattle.mt_disk.proofs.CrashLaws.{widened}
use Rattle.mt_checkpoint.{specs.Checkpoints.IsOneOf, proofs.{Crash.narrower, Stopping.clears}}
use Rattle.mt_checkpoint.proofs.slot.open_or_clear.Goals as goal

pub returns-in-Err-clause-leaves : goal.returns-in-Err-clause-leaves
returns-in-Err-clause-leaves g c honest w is staged =
    let s = g.D.Disk.state c.args.disk.now in
    let both = None ∷ Some w ∷ [] in
    let still = subst IsTrue (sym c.open_gate.ensures.honest) honest in
    widened (IsOneOf (None ∷ both)) (IsOneOf both) s (g.D.Disk.state c.clear.new.disk) (λ image one. narrower both image (inl refl) one)
    (c.clear.ensures.leaves still both s (c.open_gate.ensures.leaves honest w is staged))

pub returns-in-Err-clause-cleared : goal.returns-in-Err-clause-cleared
returns-in-Err-clause-cleared g c =
    clears g.D.Disk.is_honest g.D.Disk.state g.D.Disk.failures c.clear.result c.args.disk.now c.open_gate.new.disk c.clear.new.disk
    c.in-Err.ensures.count c.open_gate.ensures.honest c.clear.ensures.count c.clear.ensures.behind
