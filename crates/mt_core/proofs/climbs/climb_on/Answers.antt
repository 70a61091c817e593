-- What the call of each phase of a climb ensures is what is told of the step.
use Rattle.std.proofs.Common.{subst, sym, ℕ, ◌≡◌}
use Rattle.mt_operation.specs.declared.phase.Phase.{Phase}
use Rattle.mt_operation.specs.declared.phase.Phase.TheVariants.{InsertChild, InteriorSplit, LockParent, Reparent, RootGrow, SplitPrev}
use Rattle.mt_operation.specs.{declared.walk.Walk.Walk, declared.splits.Splits.Splits}
use Rattle.mt_arena.specs.Arena.{ArenaView}
use Rattle.mt_insert.specs.{KeptSplits.{IsAtLockParent, KeptSplit, last_of}, Climbs.IsClimbFrom}
use Rattle.mt_core.proofs.climbs.climb_on.Goals as goal

-- the step from the phase at which the walk is
from_here : (p : Phase) (least op : ℕ) (old new : ArenaView) (before after : Walk) (s t : Splits) → before.phase ≡ p
    → IsClimbFrom p least op old new before after s t → IsClimbFrom before.phase least op old new before after s t
from_here p least op old new before after s t at_p = subst (λ (q : Phase). IsClimbFrom q least op old new before after s t) (sym at_p)

pub returns-in-SplitPrev : goal.returns-in-SplitPrev
returns-in-SplitPrev c = from_here SplitPrev _ _ _ _ _ _ _ _ c.in-SplitPrev.is c.split_prev.ensures

pub returns-in-None : goal.returns-in-None
returns-in-None c = from_here LockParent _ _ _ _ _ _ _ _ c.in-LockParent.is c.in-None.ensures.locks

pub returns-in-Some : goal.returns-in-Some
returns-in-Some c =
    let e = c.in-Some.ensures in
    let kept : IsAtLockParent c.args.arena.now c.args.operation c.args.splits.now =
    subst (λ (p : Phase). KeptSplit p c.args.arena.now c.args.operation c.args.splits.now) c.in-LockParent.is c.requires.kept in
    let there = (c.facts.ensures.arena.nodes.each (last_of c.args.splits.now).left kept.named.splits.parted.left.held.there).names.parent e.again.0 e.again.1 in
    (e.unchanged.0, e.unchanged.1, e.unchanged.2, c.in-LockParent.is, e.again.0, e.again.1, there, e.again.2, e.another)

pub returns-in-InsertChild : goal.returns-in-InsertChild
returns-in-InsertChild c = from_here InsertChild _ _ _ _ _ _ _ _ c.in-InsertChild.is c.insert_child.ensures

pub returns-in-Ok : goal.returns-in-Ok
returns-in-Ok c = from_here InteriorSplit _ _ _ _ _ _ _ _ c.in-InteriorSplit.is c.in-Ok.ensures.splits

pub returns-in-Reparent : goal.returns-in-Reparent
returns-in-Reparent c = from_here Reparent _ _ _ _ _ _ _ _ c.in-Reparent.is c.reparent.ensures

pub returns-in-Ok-root_grow : goal.returns-in-Ok-root_grow
returns-in-Ok-root_grow c = from_here RootGrow _ _ _ _ _ _ _ _ c.in-RootGrow.is c.in-Ok-root_grow.ensures.grows
