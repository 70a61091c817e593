-- What a walk has found at its end.
use Rattle.mt_pages.proofs.Based.{walk_is, are_walked}
use Rattle.mt_pages.proofs.laws.a_walk_that_has_ended_is_whole.Goals as goal

pub returns-clause-walk : goal.returns-clause-walk
returns-clause-walk c history first now walk pairs found most =
    walk_is history first now walk.tenants.items walk.place walk.from walk.after pairs found most

pub returns-clause-base : goal.returns-clause-base
returns-clause-base c history first now walk pairs found none empty =
    are_walked history first now walk.tenants.items walk.place walk.from walk.after pairs found none empty
