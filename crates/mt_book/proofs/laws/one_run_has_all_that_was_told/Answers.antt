use Rattle.mt_book.proofs.OneRuns.{one_run}
use Rattle.mt_book.proofs.laws.one_run_has_all_that_was_told.Goals as goal

pub returns : goal.returns
returns c = one_run
