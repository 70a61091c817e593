use Rattle.std.{proofs.Common.{◌≡◌, ◌+◌, vec_len, length}, specs.List.sum_by}
use Rattle.mt_book.specs.declared.shared.Clerk.{Clerk}
use Rattle.mt_book.proofs.Gathering.{AllHaveSeen}
use Rattle.mt_book.proofs.shared.take_all_back.Given as goal

-- what the clerks that came back had seen, and how many states all have added with their last looks
abbrev pub invariant-loop-clerk : goal.invariant-loop-clerk
invariant-loop-clerk g l =
    (l.kept.state ≡ l.fn.kept.state)
    × AllHaveSeen (λ (c : Clerk g.row.L.Denot g.row.J.Denot). c.mark) l.fn.clerks.items l.clerk-iterator.rest.items l.kept.log
    × (l.parts.parts + length l.clerk-iterator.rest.items ≡ l.fn.parts.parts + vec_len l.fn.clerks)
    × (l.parts.amount + (sum_by (λ (c : Clerk g.row.L.Denot g.row.J.Denot). c.mark.made) l.clerk-iterator.rest.items + length l.clerk-iterator.rest.items)
    ≡ l.fn.parts.amount + (sum_by (λ (c : Clerk g.row.L.Denot g.row.J.Denot). c.mark.made) l.fn.clerks.items + vec_len l.fn.clerks))
