use Rattle.std.proofs.Common.{◌+◌, ◌∙◌, List, sym, subst, refl}
use Rattle.mt_history.specs.Legal.{EndsWith}
use Rattle.mt_history.proofs.Fronts.{may_follow, ends_more}
use Rattle.mt_book_tests.specs.Deeds.{Leads, Took, Counts}
use Rattle.mt_book_tests.proofs.tests.counters.Kept.take.Goals as goal

pub add-requires : goal.add-requires
add-requires g c = may_follow Leads c.self.inside.tip c.self.inside.tally (c.self.inside.tally.0, c.self.inside.tally.1 + 1) c.self.invariant (record { deed = Took c.self.inside.tally.0; did = (refl, refl, refl) })

pub invariant_of-self : goal.invariant_of-self
invariant_of-self g c = subst (λ (l : List Counts). EndsWith l (c.self.inside.tally.0, c.self.inside.tally.1 + 1)) (sym c.add.ensures.adds) (ends_more c.self.inside.tip (c.self.inside.tally.0, c.self.inside.tally.1 + 1))

-- the state that was there, and the one that was added
pub returns : goal.returns
returns g c = record {
  before = c.self.inside.tip;
  from = c.self.inside.tally;
  to = (c.self.inside.tally.0, c.self.inside.tally.1 + 1);
  since = c.add.ensures.before;
  ends = c.self.invariant;
  log = c.add.ensures.seen ∙ c.add.ensures.adds;
  made = c.add.ensures.made;
  did = (refl, refl, refl);
}
