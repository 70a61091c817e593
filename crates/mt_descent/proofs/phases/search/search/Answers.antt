-- What is kept of what was found.
use Rattle.mt_arena.specs.Accesses.{at}
use Rattle.mt_descent.proofs.Looks.{kept_searched, finds_in}
use Rattle.mt_descent.proofs.phases.search.search.Goals as goal

pub returns-clause-kept : goal.returns-clause-kept
returns-clause-kept c past row stamped now since =
    let found = rw (c.slice.ensures, c.mark.ensures.value, c.suffix.ensures.value) at c.find-found.ensures in
    rw c.go_on.ensures
    (kept_searched c.args.arena.now c.args.key.now c.args.walk.now c.facts.ensures.arena c.requires.kept past row c.args.step c.find-found.result stamped now since
    (finds_in (at c.args.arena.now c.args.walk.now.place.node) c.border-border.result.now _ _ _ _ c.args.key.now c.args.walk.now.layer c.find-found.result c.border-border.ensures found))
