-- both parts of the sixteen separators and seventeen children keep the shape
use Rattle.std.proofs.{Common.{ℕ, List, length, ap, arith}, lemmas.List.length-drop, lemmas.List.Edits.length-insert}
use Rattle.mt_interior.{specs.{declared.node.TheConstants.{LEFT_SEPARATORS, LEFT_CHILDREN}, Node.InteriorNode}, proofs.Shapes.{interior_front, interior_back}}
use Rattle.mt_interior.proofs.node.Interior.split_into.Goals as goal

pub invariant_of-self : goal.invariant_of-self
invariant_of-self c =
    let separators_are = ap (λ (n : InteriorNode). n.separators) c.self.view_is in
    interior_front c.self.inside.separators c.self.inside.children.items c.place_of-place.result c.args.separator c.args.child _ _ c.self.invariant (rw separators_are c.requires.full) (rw separators_are c.requires.missing) (rw separators_are c.place_of-place.ensures.parts) c.insert.ensures c.insert-2.ensures.items _ _ LEFT_SEPARATORS LEFT_CHILDREN c.split_off-upper.ensures.kept c.move_tail.ensures.kept (omega arith) (omega arith)

pub invariant_of-right : goal.invariant_of-right
invariant_of-right c =
    let separators_are = ap (λ (n : InteriorNode). n.separators) c.self.view_is in
    rw c.remove-middle.ensures.rest (interior_back c.self.inside.separators c.self.inside.children.items c.place_of-place.result c.args.separator c.args.child _ _ c.self.invariant (rw separators_are c.requires.full) (rw separators_are c.requires.missing) (rw separators_are c.place_of-place.ensures.parts) c.insert.ensures c.insert-2.ensures.items _ _ LEFT_SEPARATORS LEFT_CHILDREN c.split_off-upper.ensures.moved c.move_tail.ensures.moved (omega arith) (omega arith))

pub remove-middle-requires : goal.remove-middle-requires
remove-middle-requires c =
    let separators_are = ap (λ (n : InteriorNode). length n.separators) c.self.view_is in
    let upto = rw (← ap (λ (n : InteriorNode). n.separators) c.self.view_is) at c.place_of-place.ensures.parts.in_range in
    omega (arith, ap (λ (xs : List ℕ). length xs) c.split_off-upper.ensures.moved, length-drop LEFT_SEPARATORS c.insert.new.self, ap (λ (xs : List ℕ). length xs) c.insert.ensures, length-insert c.self.inside.separators c.place_of-place.result c.args.separator upto, separators_are, c.requires.full)
