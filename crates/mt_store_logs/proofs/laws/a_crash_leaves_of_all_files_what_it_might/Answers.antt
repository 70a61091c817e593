-- By the lemma for all files.
use Rattle.mt_store_logs.proofs.FirstAndCrashed.{crashed_files}
use Rattle.mt_store_logs.proofs.laws.a_crash_leaves_of_all_files_what_it_might.Goals as goal

pub returns : goal.returns
returns c = crashed_files
