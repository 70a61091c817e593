-- No row of the table of phases leads so.
use Rattle.std.proofs.Common.{subst}
use Rattle.mt_operation.specs.declared.phase.Phase.{Phase}
use Rattle.mt_operation.specs.declared.phase.Phase.TheVariants.{Enter, Search, Load, Lock, Judge, Store, Publish, Snap, Hop, MarkUnstable, Link, MarkLayer, SplitStart, LockParent, DropKey, Unlink, Unlock, Done}
use Rattle.mt_operation.specs.Phases.{MayFollow}
use Rattle.mt_state.specs.Steps.{LeavesOut}
use Rattle.mt_state.proofs.laws.a_step_leaves_out_no_phase.Goals as goal

no_way : (p q : Phase) → LeavesOut p q → MayFollow p q → ⊥
no_way Enter Load left follows = follows
no_way Enter Done left follows = follows
no_way Search Done left follows = follows
no_way Lock Store left follows = follows
no_way Lock Publish left follows = follows
no_way Judge Publish left follows = follows
no_way Snap Hop left follows = follows
no_way MarkUnstable MarkLayer left follows = follows
no_way Link Unlock left follows = follows
no_way SplitStart LockParent left follows = follows
no_way DropKey Unlink left follows = follows
no_way _ _ left follows = left

pub returns : goal.returns
returns c = λ old new o done p q left s at_p at_q.
    no_way p q left (subst (MayFollow p) at_q (subst (λ x. MayFollow x s.after.phase) at_p s.moves.follows))
