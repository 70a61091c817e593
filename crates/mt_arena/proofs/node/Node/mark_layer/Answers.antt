-- what is shown once the slot is a link
use Rattle.mt_border.specs.Held.{Link}
use Rattle.mt_arena.proofs.NodeSlots.{shown_held}
use Rattle.mt_arena.proofs.node.Node.mark_layer.Goals as goal

pub returns-clause-after : goal.returns-clause-after
returns-clause-after c = λ pair tree is. rw (← c.self.view_is, c.in-Leaf.is)
    (shown_held c.in-Leaf.border c.mark_layer.new.self c.self.inside.tree c.self.inside.level c.self.inside.reach c.self.inside.holder c.args.slot
    (rw (← c.self.view_is, c.in-Leaf.is) at c.requires.live) (Link tree) (c.mark_layer.ensures.after pair tree (rw (← c.self.view_is, c.in-Leaf.is) at is)))

pub returns-clause-keeps : goal.returns-clause-keeps
returns-clause-keeps c = rw (← c.self.view_is, c.in-Leaf.is) c.mark_layer.ensures.keeps
