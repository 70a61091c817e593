-- what is shown once the slot is live no more
use Rattle.mt_arena.proofs.NodeSlots.{shown_let_go}
use Rattle.mt_arena.proofs.node.Node.let_go.Goals as goal

pub returns-clause-after : goal.returns-clause-after
returns-clause-after c = rw (← c.self.view_is, c.in-Leaf.is)
    (shown_let_go c.in-Leaf.border c.let_go.new.self c.self.inside.tree c.self.inside.level c.self.inside.reach c.self.inside.holder c.args.slot
    (rw (← c.self.view_is, c.in-Leaf.is) at c.requires.live) c.let_go.ensures.entries c.let_go.ensures.slots c.let_go.ensures.others)

pub returns-clause-lost : goal.returns-clause-lost
returns-clause-lost c = rw (← c.self.view_is, c.in-Leaf.is) c.let_go.ensures.lost

pub returns-clause-keeps : goal.returns-clause-keeps
returns-clause-keeps c = rw (← c.self.view_is, c.in-Leaf.is) c.let_go.ensures.keeps
