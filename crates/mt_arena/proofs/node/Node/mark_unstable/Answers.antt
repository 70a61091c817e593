-- what is shown once the slot holds an unstable pair
use Rattle.mt_border.specs.Held.{Unstable}
use Rattle.std.specs.Prelude.{None}
use Rattle.mt_arena.proofs.NodeSlots.{shown_held}
use Rattle.mt_arena.proofs.node.Node.mark_unstable.Goals as goal

pub returns-clause-after : goal.returns-clause-after
returns-clause-after c = λ pair is. rw (← c.self.view_is, c.in-Leaf.is)
    (shown_held c.in-Leaf.border c.mark_unstable.new.self c.self.inside.tree c.self.inside.level c.self.inside.reach c.self.inside.holder c.args.slot
    (rw (← c.self.view_is, c.in-Leaf.is) at c.requires.live) (Unstable pair None) (c.mark_unstable.ensures.after pair (rw (← c.self.view_is, c.in-Leaf.is) at is)))

pub returns-clause-keeps : goal.returns-clause-keeps
returns-clause-keeps c = rw (← c.self.view_is, c.in-Leaf.is) c.mark_unstable.ensures.keeps
