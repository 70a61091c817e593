-- What holds of each phase of a kind holds by the kind: the phases of a kind are listed here alone.
use Rattle.std.proofs.Common.{◌<◌, ◌≤◌, arith}
use Rattle.mt_operation.specs.declared.phase.Phase.{Phase}
use Rattle.mt_operation.specs.declared.phase.Phase.TheVariants.{Enter, Pick, Child, Verify, Forward, SplitPrev, LockParent, InsertChild, InteriorSplit, Reparent, RootGrow, MakeLayer, MarkUnstable, Link, MarkLayer, LockPrev, LockAbove, Unlink, FixNext, Collapse, CleanLayer, Unlock}
use Rattle.mt_operation.specs.Phases.{Kind, Unlinks, Returns, row, IsDescent, IsClimb, IsLayerPhase, IsRemovalPhase, MayFollow}

-- an operation that goes down
pub by_descent : (P : Phase → Type 0) → P Enter → P Pick → P Child → P Verify → P Forward → (p : Phase) → IsDescent p → P p
by_descent P enter pick child verify forward Enter i = enter
by_descent P enter pick child verify forward Pick i = pick
by_descent P enter pick child verify forward Child i = child
by_descent P enter pick child verify forward Verify i = verify
by_descent P enter pick child verify forward Forward i = forward
by_descent P enter pick child verify forward _ i = absurd i

-- one whose right halves come to their parents
pub by_climb : (P : Phase → Type 0) → P SplitPrev → P LockParent → P InsertChild → P InteriorSplit → P Reparent → P RootGrow
    → (p : Phase) → IsClimb p → P p
by_climb P previous lock insert split reparent grow SplitPrev i = previous
by_climb P previous lock insert split reparent grow LockParent i = lock
by_climb P previous lock insert split reparent grow InsertChild i = insert
by_climb P previous lock insert split reparent grow InteriorSplit i = split
by_climb P previous lock insert split reparent grow Reparent i = reparent
by_climb P previous lock insert split reparent grow RootGrow i = grow
by_climb P previous lock insert split reparent grow _ i = absurd i

-- one that makes a layer
pub by_layer : (P : Phase → Type 0) → P MakeLayer → P MarkUnstable → P Link → P MarkLayer → (p : Phase) → IsLayerPhase p → P p
by_layer P makes unstable link mark MakeLayer i = makes
by_layer P makes unstable link mark MarkUnstable i = unstable
by_layer P makes unstable link mark Link i = link
by_layer P makes unstable link mark MarkLayer i = mark
by_layer P makes unstable link mark _ i = absurd i

-- one that takes an empty node or an empty layer out
pub by_removal : (P : Phase → Type 0) → P LockPrev → P LockAbove → P Unlink → P FixNext → P Collapse → P CleanLayer
    → (p : Phase) → IsRemovalPhase p → P p
by_removal P previous above unlink fix collapse clean LockPrev i = previous
by_removal P previous above unlink fix collapse clean LockAbove i = above
by_removal P previous above unlink fix collapse clean Unlink i = unlink
by_removal P previous above unlink fix collapse clean FixNext i = fix
by_removal P previous above unlink fix collapse clean Collapse i = collapse
by_removal P previous above unlink fix collapse clean CleanLayer i = clean
by_removal P previous above unlink fix collapse clean _ i = absurd i

-- an operation that takes a node or a layer out goes on so, or gives its locks back, and each step comes nearer to that
abbrev pub IsBehindBy : Kind → Type 0
IsBehindBy Unlinks = Unit {0}
IsBehindBy Returns = Unit {0}
IsBehindBy _ = ⊥

pub behind_removal : (p q : Phase) → IsRemovalPhase p → MayFollow p q → IsBehindBy (row q).kind × ((row p).rank < (row q).rank)
behind_removal LockPrev LockAbove i follows = (tt, omega arith)
behind_removal LockPrev _ i follows = absurd follows
behind_removal LockAbove Unlink i follows = (tt, omega arith)
behind_removal LockAbove Unlock i follows = (tt, omega arith)
behind_removal LockAbove _ i follows = absurd follows
behind_removal Unlink FixNext i follows = (tt, omega arith)
behind_removal Unlink Collapse i follows = (tt, omega arith)
behind_removal Unlink Unlock i follows = (tt, omega arith)
behind_removal Unlink _ i follows = absurd follows
behind_removal FixNext Collapse i follows = (tt, omega arith)
behind_removal FixNext Unlock i follows = (tt, omega arith)
behind_removal FixNext _ i follows = absurd follows
behind_removal Collapse Unlock i follows = (tt, omega arith)
behind_removal Collapse _ i follows = absurd follows
behind_removal CleanLayer LockPrev i follows = (tt, omega arith)
behind_removal CleanLayer Unlock i follows = (tt, omega arith)
behind_removal CleanLayer _ i follows = absurd follows
behind_removal _ q i follows = absurd i

-- the ranks are small
pub few_ranks : (p : Phase) → (row p).rank ≤ 8
few_ranks Enter = omega arith
few_ranks _ = omega arith
