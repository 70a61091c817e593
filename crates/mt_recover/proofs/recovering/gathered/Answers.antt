-- Two slots are the first and the second.
use Rattle.std.proofs.Common.{ℕ, List, Option, map, subst, IfErr}
use Rattle.mt_checkpoint.specs.declared.checkpoint.Checkpoint.{Checkpoint}
use Rattle.mt_log.specs.Contents.{contents_of}
use Rattle.mt_recover.specs.{Sources.AreLeft, Refusals.StopsRecovery}
use Rattle.mt_recover.proofs.Covering.{are_two}
use Rattle.mt_recover.proofs.recovering.gathered.Goals as goal

pub returns-clause-refused : goal.returns-clause-refused
returns-clause-refused g c =
    subst (λ (seen : List (Option Checkpoint)).
    IfErr c.gathered_of.result (λ e. (quota : ℕ → Option ℕ) →
    StopsRecovery g.S.Source.refused (g.S.Source.holds c.args.source.now) (AreLeft (g.S.Source.left c.args.source.now) (map contents_of c.args.fronts.now)) seen c.gathered_of.new.source
    (map contents_of c.gathered_of.new.fronts) quota e))
    (are_two c.args.checkpoints.now c.index-checkpoints-0.result c.index-checkpoints-1.result c.type_inv.checkpoints)
    c.gathered_of.ensures.refused
