-- A right half that came nearer to its parent, who is in its way, and that there was no memory.
use Rattle.std.proofs.Common.{ℕ, refl, sym, ap, subst, ◌∙◌}
use Rattle.mt_rows.specs.Accounts.{Accounts}
use Rattle.mt_tape.specs.Tapes.{Kept}
use Rattle.mt_arena.specs.Arena.{ArenaView}
use Rattle.mt_operation.specs.{declared.phase.Phase.Phase, declared.walk.Walk.Walk, declared.splits.Splits.Splits, declared.operation.Operation.Operation}
use Rattle.mt_operation.specs.Operations.{splits_of, scan_of}
use Rattle.mt_table.specs.{declared.steps.Made.Made, declared.steps.Made.TheVariants.{Step, Blocked, NoMemory, Nothing}}
use Rattle.mt_insert.specs.KeptSplits.{HoldsSplits}
use Rattle.mt_state.specs.Promises.{IsInTheWay}
use Rattle.mt_core.specs.{Climbs.{TellsClimbed as ToldOfNodes}, Writes.{Writes, TellsClimbed, parts}}
use Rattle.mt_core.proofs.writes.climb.Goals as goal

-- what is told of the nodes is told of the operation
told : (least o : ℕ) (old new : ArenaView) (op : Operation) (w : Walk) (s : Splits) (made : Made) → HoldsSplits old o op.splits → ToldOfNodes least o old new op.walk w op.splits s made
    → (tape : Kept) (accounts : Accounts) → Writes o (TellsClimbed o least) (parts old tape accounts) (parts new tape accounts) op made (record op { walk = w; splits = s })
told least o old new op w s Step holds e tape accounts = record { climbs = e; rest = refl; others = refl }
told least o old new op w s (Blocked holder) holds e tape accounts = (
  subst (λ (p : Phase). IsInTheWay old p op.walk (splits_of op.splits) op.removal (scan_of op.task op.scan) holder) (sym e.3) (e.4, e.5, e.6, e.7),
  e.8 holds,
  ap (λ (v : ArenaView). parts v tape accounts) e.0,
  ap (λ (x : Walk). record op { walk = x; splits = s }) e.1 ∙ ap (λ (x : Splits). record op { splits = x }) e.2,
)
told least o old new op w s NoMemory holds e tape accounts =
    (e.3, ap (λ (v : ArenaView). parts v tape accounts) e.0, e.2, ap (λ (x : Walk). record op { walk = x; splits = s }) e.1)
told least o old new op w s Nothing holds e tape accounts = absurd e

pub climb_on-requires-clause-phase : goal.climb_on-requires-clause-phase
climb_on-requires-clause-phase c = c.requires.phase

pub climb_on-requires-clause-kept : goal.climb_on-requires-clause-kept
climb_on-requires-clause-kept c = c.requires.kept

pub climb_on-requires-clause-forgotten : goal.climb_on-requires-clause-forgotten
climb_on-requires-clause-forgotten c = c.requires.gives.forgotten

pub climb_on-requires-clause-renews : goal.climb_on-requires-clause-renews
climb_on-requires-clause-renews c = c.requires.gives.renews

pub returns : goal.returns
returns c = told _ _ _ _ _ _ _ _ c.requires.holds c.climb_on.ensures
