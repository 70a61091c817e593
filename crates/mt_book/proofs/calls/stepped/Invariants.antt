use Rattle.mt_book.specs.Calls.{Led, Gated, AreTurns}
use Rattle.mt_book.proofs.calls.stepped.Given as goal

abbrev pub invariant-loop : goal.invariant-loop
invariant-loop g l =
    (goal.iterator-loop g).can_next l.iterator' × (goal.iterator-loop g).is_finite l.iterator'
    × Led (Gated g.D.Desk.does (g.G.Gate.turned l.gate)) l.fn.desk l.desk (λ ps. AreTurns l.pass.seen l.ticket.id l.shown l.fn.phase ps l.last l.next)
