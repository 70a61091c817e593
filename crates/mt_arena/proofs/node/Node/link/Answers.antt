-- what is shown once the slot has the number of its tree
use Rattle.mt_border.specs.Held.{Unstable}
use Rattle.std.specs.Prelude.{Some}
use Rattle.mt_arena.proofs.NodeSlots.{shown_held}
use Rattle.mt_arena.proofs.node.Node.link.Goals as goal

pub returns-clause-after : goal.returns-clause-after
returns-clause-after c = λ pair is. rw (← c.self.view_is, c.in-Leaf.is)
    (shown_held c.in-Leaf.border c.link.new.self c.self.inside.tree c.self.inside.level c.self.inside.reach c.self.inside.holder c.args.slot
    (rw (← c.self.view_is, c.in-Leaf.is) at c.requires.live) (Unstable pair (Some c.args.tree)) (c.link.ensures.after pair (rw (← c.self.view_is, c.in-Leaf.is) at is)))

pub returns-clause-keeps : goal.returns-clause-keeps
returns-clause-keeps c = rw (← c.self.view_is, c.in-Leaf.is) c.link.ensures.keeps
