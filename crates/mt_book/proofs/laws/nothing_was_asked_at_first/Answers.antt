use Rattle.mt_book.proofs.Keeping.{unasked_new, unasked_restored}
use Rattle.mt_book.proofs.laws.nothing_was_asked_at_first.Goals as goal

pub returns-clause-new : goal.returns-clause-new
returns-clause-new c = unasked_new

pub returns-clause-restored : goal.returns-clause-restored
returns-clause-restored c = unasked_restored
