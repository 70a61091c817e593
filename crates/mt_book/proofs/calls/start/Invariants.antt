use Rattle.std.specs.{Prelude.{◌≡◌}, List.AllByRecursion}
use Rattle.mt_book.specs.Calls.{Led, IsBefore}
use Rattle.mt_book.proofs.calls.start.Given as goal

abbrev pub invariant-loop : goal.invariant-loop
invariant-loop g l =
    (goal.iterator-loop g).can_next l.iterator' × (goal.iterator-loop g).is_finite l.iterator'
    × (l.opening ≡ l.fn.opening)
    × Led g.D.Desk.does l.fn.desk l.desk (AllByRecursion (IsBefore l.pass.seen l.pass.worker))
