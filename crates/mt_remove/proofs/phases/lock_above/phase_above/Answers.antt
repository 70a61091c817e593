-- That the phase tells whether the left neighbour is the child before.
use Rattle.std.proofs.Common.{◌≡◌, ℕ, sym, ap, subst, ◌∙◌}
use Rattle.mt_arena.specs.{NodeView.NodeView, Accesses.at}
use Rattle.mt_remove.specs.Unlinks.{IsChildBefore}
use Rattle.mt_remove.proofs.phases.lock_above.phase_above.Goals as goal

-- the fence that the node tells
low_is : (n m : NodeView) (told : ℕ) → n ≡ m → told ≡ n.low → told ≡ m.low
low_is n m told node tells = tells ∙ ap (λ (x : NodeView). x.low) node

pub returns-then-is_child_before-clause-returns : goal.returns-then-is_child_before-clause-returns
returns-then-is_child_before-clause-returns c = λ other.
    absurd (other (subst (λ low. IsChildBefore (at c.args.arena.now c.args.parent) low c.args.removal.now.left) (low_is _ _ _ c.node.ensures c.low.ensures)
    (c.is_child_before.ensures.yes c.if-is_child_before.true)))

pub returns-else-is_child_before-clause-unlinks : goal.returns-else-is_child_before-clause-unlinks
returns-else-is_child_before-clause-unlinks c = λ before.
    absurd (c.is_child_before.ensures.no c.if-is_child_before.false
    (subst (λ low. IsChildBefore (at c.args.arena.now c.args.parent) low c.args.removal.now.left) (sym (low_is _ _ _ c.node.ensures c.low.ensures)) before))
