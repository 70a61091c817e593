-- How a walk goes on.
use Rattle.mt_pages.proofs.Walked.{begins_at, takes, stays}
use Rattle.mt_pages.proofs.laws.a_walk_finds_pairs.Goals as goal

pub returns-clause-begins : goal.returns-clause-begins
returns-clause-begins c = begins_at

pub returns-clause-page : goal.returns-clause-page
returns-clause-page c = takes

pub returns-clause-stays : goal.returns-clause-stays
returns-clause-stays c old new first now later walk pairs le keeps found =
    stays old new first now later le keeps walk.tenants.items walk.place walk.from walk.after pairs found
