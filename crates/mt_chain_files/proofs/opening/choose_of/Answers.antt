-- The logs of the choice are of their workers. A start falls in them, or none.
use Rattle.std.proofs.Common.{rules, inr}
use Rattle.mt_chain_files.proofs.opening.choose_of.Goals as goal

pub returns-in-Some-first_apart-clause-err : goal.returns-in-Some-first_apart-clause-err
returns-in-Some-first_apart-clause-err c = inr (
  c.in-Some-first_apart.number,
  c.in-Some-first_apart.stamp,
  record {
    generation = c.in-Some.generation;
    has = c.in-Some.ensures.has;
    chosen = c.in-Some.ensures.chosen;
    owned = c.are_owned.ensures.0 c.if-not-are_owned.false;
    apart = c.in-Some-first_apart.ensures;
  },
  search rules,
)

pub returns-in-None-first_apart-clause-ok : goal.returns-in-None-first_apart-clause-ok
returns-in-None-first_apart-clause-ok c = record {
  chosen = c.in-Some.ensures.chosen;
  owned = c.are_owned.ensures.0 c.if-not-are_owned.false;
  meets = c.in-None-first_apart.ensures;
}
