-- That the keys may be parted without the pair: the tree is live.
use Rattle.mt_insert.proofs.PartingKeys.{live_here}
use Rattle.mt_insert.proofs.phases.split_move.part_without.Goals as goal

pub split_border-requires-clause-live : goal.split_border-requires-clause-live
split_border-requires-clause-live c =
    let kept = c.requires.kept in
    rw c.last-left.ensures (live_here c.args.arena.now c.args.operation kept.0 kept.1 c.args.walk.now c.args.splits.now c.facts.ensures.arena kept.3)
