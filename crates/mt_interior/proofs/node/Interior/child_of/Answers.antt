-- the place that the search finds is the one part that holds the slice
use Rattle.std.proofs.Common.{subst, sym, arith}
use Rattle.mt_interior.{specs.Node.{InteriorNode, IsInterior}, proofs.PlaceLemmas.{between-place, place_of-between}}
use Rattle.mt_interior.proofs.node.Interior.child_of.Goals as goal

pub returns-clause-range : goal.returns-clause-range
returns-clause-range c holds = rw (← c.place_of.ensures.value) (between-place c.args.self.now.low c.args.self.now.separators c.args.self.now.high c.args.slice _ c.place_of.ensures.parts holds.0 holds.1)

pub returns-clause-only : goal.returns-clause-only
returns-clause-only c i there between =
    let interior = subst (λ (n : InteriorNode). IsInterior n.separators n.children) c.self.view_is c.self.invariant in
    sym (place_of-between c.args.self.now.low c.args.self.now.separators c.args.self.now.high c.args.slice i interior.rising (omega (arith, interior.between, there)) between)
