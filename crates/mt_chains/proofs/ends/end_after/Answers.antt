-- Batches end where the last one does.
use Rattle.std.proofs.Common.{◌∙◌, sym}
use Rattle.mt_chains.proofs.JoinLaws.{end_last}
use Rattle.mt_chains.proofs.ends.end_after.Goals as goal

pub returns-in-Some : goal.returns-in-Some
returns-in-Some c = c.to.ensures ∙ sym (end_last c.args.mark c.args.batches.now c.in-Some.batch.now (sym c.in-Some.ensures.value))
