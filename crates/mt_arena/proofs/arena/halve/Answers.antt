use Rattle.mt_arena.proofs.Two.{halved_front, halved_back}
use Rattle.mt_arena.proofs.arena.halve.Goals as goal

pub returns-then-left-right : goal.returns-then-left-right
returns-then-left-right c =
    let parts = c.split_at_mut-front.ensures in
    let is = c.split.ensures in
    halved_front c.args.entry c.args.nodes.now _ _ c.args.left c.args.right _ _ _ _ parts.front parts.back
    c.if-left-right.true c.requires.right_there is.parted is.some_left is.some_right is.renewed is.fresh is.left is.right

pub returns-else-left-right : goal.returns-else-left-right
returns-else-left-right c =
    let parts = c.split_at_mut-front-else-left-right.ensures in
    let is = c.split-else-left-right.ensures in
    halved_back c.args.entry c.args.nodes.now _ _ c.args.left c.args.right _ _ _ _ parts.front parts.back
    c.requires.differ c.if-left-right.false c.requires.there is.parted is.some_left is.some_right is.renewed is.fresh is.left is.right
