-- What an indent writes, for its `Display`.
use Rattle.std.proofs.{Common.{◌+◌, rules}, Output.{has_written_append, has_written_of_eq}}
use Rattle.mt_core.proofs.Texts.{two_more}
use Rattle.mt_core.proofs.shape.IndentDisplay.fmt.Goals as goal

-- two spaces more
pub loop-level-preserved : goal.loop-level-preserved
loop-level-preserved g c plain =
    has_written_of_eq _ _ _ _ _ (two_more (c.loop-level._level + 1)) (has_written_append _ _ _ _ _ _ (c.loop-level.invariant plain) (search rules))
