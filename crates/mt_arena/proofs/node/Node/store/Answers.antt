-- what is shown once the slot has another row
use Rattle.mt_border.specs.Held.{Stable}
use Rattle.mt_arena.proofs.NodeSlots.{shown_held}
use Rattle.mt_arena.proofs.node.Node.store.Goals as goal

pub returns-clause-after : goal.returns-clause-after
returns-clause-after c = λ pair is. rw (← c.self.view_is, c.in-Leaf.is)
    (shown_held c.in-Leaf.border c.store.new.self c.self.inside.tree c.self.inside.level c.self.inside.reach c.self.inside.holder c.args.slot
    (rw (← c.self.view_is, c.in-Leaf.is) at c.requires.live) (Stable (record pair { row = c.args.row; stamp = c.args.stamp })) (c.store.ensures.after pair (rw (← c.self.view_is, c.in-Leaf.is) at is)))

pub returns-clause-keeps : goal.returns-clause-keeps
returns-clause-keeps c = rw (← c.self.view_is, c.in-Leaf.is) c.store.ensures.keeps
