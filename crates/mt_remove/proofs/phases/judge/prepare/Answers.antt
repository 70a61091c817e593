-- That the slot has a pair, and that what is made ready is the removal of its row.
use Rattle.std.proofs.Common.{◌≡◌, Some, subst}
use Rattle.mt_border.specs.Entry.{pair_of}
use Rattle.mt_arena.specs.{NodeView.{NodeView, place_at}, Layers.slot_at, Accesses.at}
use Rattle.mt_held.proofs.Looks.{live_there}
use Rattle.mt_remove.proofs.Looking.{pair_there}
use Rattle.mt_remove.proofs.phases.judge.prepare.Goals as goal

pub prepared-requires-clause-pair : goal.prepared-requires-clause-pair
prepared-requires-clause-pair c =
    pair_there (at c.args.arena.now c.args.walk.now.place.node) c.border.result.now _ _ _ _ c.args.slot c.args.task.now.key c.args.walk.now.layer c.border.ensures c.requires.slot

pub prepared-requires-clause-live : goal.prepared-requires-clause-live
prepared-requires-clause-live c =
    live_there (at c.args.arena.now c.args.walk.now.place.node) c.border.result.now _ _ _ _ c.args.slot c.border.ensures c.args.task.now.key c.args.walk.now.layer _ c.requires.slot

pub returns-clause-ready : goal.returns-clause-ready
returns-clause-ready c = λ pair is.
    c.in_ok-prepared.ensures pair (subst (λ (m : NodeView). pair_of (slot_at m (place_at m c.args.slot)).held ≡ Some pair) c.border.ensures is)
