-- separators and children keep their shape without a child
use Rattle.std.proofs.{Common.{◌≡◌, ◌+◌, ◌-◌, ◌∙◌, ap, length, arith}, lemmas.List.Edits.length-remove}
use Rattle.mt_interior.{specs.Node.InteriorNode, proofs.Shapes.interior_remove}
use Rattle.mt_interior.proofs.node.Interior.remove_child.Goals as goal

one_less : (c : goal.After-remove-2) → length c.remove.new.self + 1 ≡ length c.self.inside.separators
one_less c =
    let children_are = ap (λ (n : InteriorNode). length n.children) c.self.view_is in
    ap (λ xs. length xs + 1) c.remove.ensures.rest ∙ length-remove c.self.inside.separators (c.args.place - 1) (omega (arith, children_are, c.requires.not_first, c.requires.there, c.self.invariant.between))

pub invariant_of-self : goal.invariant_of-self
invariant_of-self c = interior_remove c.self.inside.separators c.self.inside.children.items _ _ _ _ c.self.invariant c.remove.ensures.rest c.remove-2.ensures.items (one_less c) c.remove-2.ensures.len
