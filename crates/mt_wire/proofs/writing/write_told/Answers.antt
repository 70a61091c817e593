-- each frame is the reply's; pairs with stamps are spelled as those that are shown
use Rattle.mt_wire.proofs.Stamped.{pairs_put}
use Rattle.mt_wire.proofs.writing.write_told.Goals as goal

pub returns-in-FoundStamped : goal.returns-in-FoundStamped
returns-in-FoundStamped g c = rw c.in-FoundStamped.is c.write_found_stamped.ensures

pub returns-in-Stale : goal.returns-in-Stale
returns-in-Stale g c = rw c.in-Stale.is c.write_number.ensures

pub returns-in-Pairs : goal.returns-in-Pairs
returns-in-Pairs g c =
    rw c.in-Pairs.is (pairs_put _ _ _ _ _ _ c.write_pairs.result c.as_slice.result.now _ c.as_slice.ensures.pairs c.write_pairs.ensures)
