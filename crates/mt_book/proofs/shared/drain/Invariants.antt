use Rattle.std.specs.Prelude.{◌≡◌}
use Rattle.mt_book.proofs.shared.drain.Given as goal

abbrev pub invariant-loop : goal.invariant-loop
invariant-loop g l =
    (goal.iterator-loop g).can_next l.iterator' × (goal.iterator-loop g).is_finite l.iterator' × (l.clerk ≡ l.fn.clerk)
