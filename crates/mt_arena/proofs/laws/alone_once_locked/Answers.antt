use Rattle.std.proofs.{Common.{inl, inr, arith}, lemmas.Bool.cases_eq, lemmas.List.length-set}
use Rattle.mt_arena.{specs.{Accesses.at, Edits.locked}, proofs.{Pairs.there, Alone.alone}}
use Rattle.mt_arena.proofs.laws.alone_once_locked.Goals as goal

pub returns : goal.returns
returns c v r op arena free k lk = elim (cases_eq k r) [
  | inl same ↦ λ tree live. same
  | inr other ↦ rw (there v.nodes r k (locked (at v r) op) other) (λ tree live.
      absurd (let dead = alone v.nodes v.trees arena r free k (omega (arith, lk, length-set v.nodes r (locked (at v r) op))) other tree in cc))
]
