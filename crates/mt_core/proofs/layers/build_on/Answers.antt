-- What the call of each phase that makes a layer ensures is what is told of the step.
use Rattle.std.{proofs.Common.{Err, Ok, OnErr, OnOk, Result, subst, sym, ℕ, ◌≡◌}, specs.declared.alloc.AllocError.AllocError}
use Rattle.mt_rows.specs.Rows.{Bytes}
use Rattle.mt_arena.specs.Arena.{ArenaView}
use Rattle.mt_operation.specs.{declared.phase.Phase.Phase, declared.phase.Phase.TheVariants.{Link, MakeLayer, MarkLayer, MarkUnstable}, declared.walk.Walk.Walk}
use Rattle.mt_held.specs.Unlock.{IsUnlock}
use Rattle.mt_layer.specs.Builds.{IsLayerFrom, IsMakeLayer}
use Rattle.mt_core.specs.Layers.{TellsBuilt}
use Rattle.mt_core.proofs.layers.build_on.Goals as goal

-- the step from the phase at which the walk is
from_here : (p : Phase) (least o : ℕ) (key : Bytes) (old new : ArenaView) (before after : Walk) → before.phase ≡ p
    → IsLayerFrom p least o key old new before after → IsLayerFrom before.phase least o key old new before after
from_here p least o key old new before after at_p = subst (λ (q : Phase). IsLayerFrom q least o key old new before after) (sym at_p)

-- the tree was made, or there was no memory for it
made_or_not : (r : Result (Unit {0}) AllocError) (least o : ℕ) (key : Bytes) (old new : ArenaView) (before after : Walk) → before.phase ≡ MakeLayer
    → OnOk r (IsMakeLayer least o key old new before after) → OnErr r (IsUnlock o old new before after)
    → TellsBuilt least o old new key before after r
made_or_not (Ok done) least o key old new before after at_make makes unlocks = from_here MakeLayer least o key old new before after at_make makes
made_or_not (Err error) least o key old new before after at_make makes unlocks = (at_make, unlocks)

pub returns-in-MakeLayer : goal.returns-in-MakeLayer
returns-in-MakeLayer c = made_or_not c.make_layer.result _ _ _ _ _ _ _ c.in-MakeLayer.is c.make_layer.ensures.makes c.make_layer.ensures.unlocks

pub returns-in-MarkUnstable : goal.returns-in-MarkUnstable
returns-in-MarkUnstable c = from_here MarkUnstable _ _ _ _ _ _ _ c.in-MarkUnstable.is c.mark_unstable.ensures

pub returns-in-Link : goal.returns-in-Link
returns-in-Link c = from_here Link _ _ _ _ _ _ _ c.in-Link.is c.link.ensures

pub returns-in-MarkLayer : goal.returns-in-MarkLayer
returns-in-MarkLayer c = from_here MarkLayer _ _ _ _ _ _ _ c.in-MarkLayer.is c.mark_layer.ensures
