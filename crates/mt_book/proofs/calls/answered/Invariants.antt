use Rattle.std.specs.{Prelude.{◌≡◌}, List.AllByRecursion}
use Rattle.mt_book.specs.Calls.{Led, IsRest}
use Rattle.mt_book.proofs.calls.answered.Given as goal

abbrev pub invariant-loop : goal.invariant-loop
invariant-loop g l =
    (goal.iterator-loop g).can_next l.iterator' × (goal.iterator-loop g).is_finite l.iterator'
    × (l.ticket ≡ l.fn.ticket)
    × (l.pass.seen ≡ l.fn.pass.seen)
    × (l.pass.worker ≡ l.fn.pass.worker)
    × (l.pass.share.amount ≡ l.fn.pass.share.amount)
    × Led g.D.Desk.does l.fn.desk l.desk (AllByRecursion (IsRest l.fn.pass.seen l.fn.ticket.id))
    × (l.displaced ≡ l.fn.displaced)
