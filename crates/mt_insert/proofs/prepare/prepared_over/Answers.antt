-- That the stamp of the row which was read is the one that was met.
use Rattle.std.proofs.Common.{Option, sym, subst}
use Rattle.mt_rows.specs.Stamps.{Stamped, stamp_in}
use Rattle.mt_operation.specs.Tasks.{ask}
use Rattle.mt_insert.specs.Puts.{MeetsStamp}
use Rattle.mt_insert.proofs.prepare.prepared_over.Goals as goal

pub prepared-requires-clause-met : goal.prepared-requires-clause-met
prepared-requires-clause-met c =
    subst (λ (row : Option Stamped). MeetsStamp (ask c.args.task.now) (stamp_in row)) (sym c.in_ok-before.ensures) c.requires.met
