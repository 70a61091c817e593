-- The right half begins at the slice of a key of the node, or at that of the put's own key.
use Rattle.mt_insert.proofs.Starting.{half_begins}
use Rattle.mt_insert.proofs.phases.split_start.halve.Goals as goal

pub begin_split-requires-clause-begins : goal.begin_split-requires-clause-begins
begin_split-requires-clause-begins c =
    let v = c.args.arena.now in
    let w = c.args.walk.now in
    let own = c.requires.kept in
    half_begins v c.args.operation own.0 own.1 w c.separator-low.result c.facts.ensures.arena own.3
    (rw (own.2, ← c.slice.ensures, ← c.mark.ensures.value, c.border.ensures) c.separator-low.ensures)
