-- The stamp of a slot of the border node, told of its view.
use Rattle.std.proofs.Common.{sym, ap, ◌∙◌}
use Rattle.mt_rows.specs.Stamps.{stamp_in}
use Rattle.mt_arena.specs.Accesses.{at}
use Rattle.mt_insert.proofs.Looks.{standing_there}
use Rattle.mt_insert.proofs.phases.judge.standing_stamp.Goals as goal

pub returns-in-Some : goal.returns-in-Some
returns-in-Some c = rw c.in-Some.is
    (c.stamp_at.ensures ∙ sym (ap stamp_in (standing_there (at c.args.arena.now c.args.walk.now.place.node) c.border.result.now _ _ _ _ c.in-Some.slot c.border.ensures)))
