use Rattle.std.proofs.Common.{refl}
use Rattle.mt_arena.proofs.node.part.Goals as goal

pub returns-clause-right : goal.returns-clause-right
returns-clause-right c =
    rw (c.split_into-middle.ensures.right, c.new-right.ensures, c.middle_with.ensures c.args.child, c.high.ensures, c.marked_splitting-version.ensures.value, c.locked.ensures.value) refl
