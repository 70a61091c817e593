-- By the lemmas for callers.
use Rattle.mt_store_logs.proofs.CallerLemmas.{crashed}
use Rattle.mt_store_logs.proofs.laws.a_crash_leaves_what_it_might.Goals as goal

pub returns : goal.returns
returns c = crashed
