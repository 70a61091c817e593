-- a count of the separators that are at most the slice is its place
use Rattle.std.proofs.Common.{ℕ, List, ap, ◌∙◌, arith}
use Rattle.mt_lists.proofs.Rises.{rising_upto}
use Rattle.mt_interior.{specs.{Node.InteriorNode, Places.place_of}, proofs.PlaceLemmas.place_of-parts}
use Rattle.mt_interior.proofs.node.Interior.place_of.Goals as goal

pub count_up_to-requires-clause-rises : goal.count_up_to-requires-clause-rises
count_up_to-requires-clause-rises c = λ i j upto within. rising_upto c.self.inside.separators i j c.self.invariant.rising upto within

pub count_up_to-requires-clause-few : goal.count_up_to-requires-clause-few
count_up_to-requires-clause-few c = omega (arith, c.self.invariant.between, c.self.invariant.room)

pub returns-clause-value : goal.returns-clause-value
returns-clause-value c = c.count_up_to.ensures ∙ ap (λ (xs : List ℕ). place_of xs c.args.slice) (ap (λ (n : InteriorNode). n.separators) c.self.view_is)

pub returns-clause-parts : goal.returns-clause-parts
returns-clause-parts c = rw (returns-clause-value c, ← c.self.view_is) (place_of-parts c.self.inside.separators c.args.slice c.self.invariant.rising)
