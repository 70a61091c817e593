-- An empty node or layer that came nearer to its end, and who is in its way.
use Rattle.std.proofs.Common.{refl, ap, ◌∙◌}
use Rattle.mt_arena.specs.Arena.{ArenaView}
use Rattle.mt_operation.specs.{declared.walk.Walk.Walk, declared.removal.Removal.Removal}
use Rattle.mt_core.specs.Writes.{parts}
use Rattle.mt_core.proofs.removals.take_out.Goals as goal

pub take_out_by-requires-clause-phase : goal.take_out_by-requires-clause-phase
take_out_by-requires-clause-phase c = c.requires.phase

pub take_out_by-requires-clause-kept : goal.take_out_by-requires-clause-kept
take_out_by-requires-clause-kept c = c.requires.kept

pub take_out_by-requires-clause-upto : goal.take_out_by-requires-clause-upto
take_out_by-requires-clause-upto c = c.requires.upto

pub returns-in-Some : goal.returns-in-Some
returns-in-Some c = λ tape accounts. (
  c.in-Some.ensures.again _ _,
  c.in-Some.ensures.another c.requires.holds,
  ap (λ (v : ArenaView). parts v tape accounts) c.in-Some.ensures.unchanged.0,
  ap (λ (w : Walk). record c.args.operation.now { walk = w; removal = c.take_out_by.new.removal }) c.in-Some.ensures.unchanged.1
      ∙ ap (λ (r : Removal). record c.args.operation.now { removal = r }) c.in-Some.ensures.unchanged.2,
)

pub returns-in-None : goal.returns-in-None
returns-in-None c = λ tape accounts. record { takes = c.in-None.ensures.takes; rest = refl; others = refl }
