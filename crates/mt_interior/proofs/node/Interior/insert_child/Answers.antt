-- separators and children keep their shape with one more child
use Rattle.std.proofs.Common.{ap}
use Rattle.mt_interior.{specs.Node.InteriorNode, proofs.Shapes.interior_insert}
use Rattle.mt_interior.proofs.node.Interior.insert_child.Goals as goal

pub invariant_of-self : goal.invariant_of-self
invariant_of-self c =
    let separators_are = ap (λ (n : InteriorNode). n.separators) c.self.view_is in
    let children_are = ap (λ (n : InteriorNode). n.children) c.self.view_is in
    rw (c.insert.ensures, c.insert-2.ensures.items) (interior_insert c.self.inside.separators c.self.inside.children.items c.place_of-place.result c.args.separator c.args.child c.self.invariant (rw separators_are c.requires.room) (rw children_are c.requires.some_child) (rw separators_are c.requires.missing) (rw separators_are c.place_of-place.ensures.parts))
