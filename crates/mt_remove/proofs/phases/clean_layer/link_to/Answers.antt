-- That a slot which was found with a link leads to a tree, and that no other slot leads the key anywhere.
use Rattle.mt_arena.specs.Accesses.{at}
use Rattle.mt_held.proofs.Looks.{link_there, live_there, leads_there}
use Rattle.mt_remove.proofs.Linked.{none_here, none_long, none_other}
use Rattle.mt_remove.proofs.phases.clean_layer.link_to.Goals as goal

pub tree_at-requires-clause-link : goal.tree_at-requires-clause-link
tree_at-requires-clause-link c =
    let found = rw (c.in-Slot-default-Link.field-1-is) at c.in-Slot-default-Link.ensures in
    link_there (at c.args.arena.now c.args.walk.now.place.node) c.border.result.now _ _ _ _ c.in-Slot-default-Link.slot c.border.ensures c.args.key.now c.args.walk.now.layer found

pub tree_at-requires-clause-live : goal.tree_at-requires-clause-live
tree_at-requires-clause-live c =
    let found = rw (c.in-Slot-default-Link.field-1-is) at c.in-Slot-default-Link.ensures in
    live_there (at c.args.arena.now c.args.walk.now.place.node) c.border.result.now _ _ _ _ c.in-Slot-default-Link.slot c.border.ensures c.args.key.now c.args.walk.now.layer _ found

pub returns-else-tree_at-tree-clause-none : goal.returns-else-tree_at-tree-clause-none
returns-else-tree_at-tree-clause-none c =
    let v = c.args.arena.now in
    let k = c.args.walk.now.place.node in
    let found = rw (c.in-Slot-default-Link.field-1-is) at c.in-Slot-default-Link.ensures in
    none_other v k c.args.key.now c.args.walk.now.layer c.args.tree c.facts.ensures.arena c.requires.kept.covers.remembered.there c.in-Slot-default-Link.slot found c.tree_at.result
    (leads_there (at v k) c.border.result.now _ _ _ _ c.in-Slot-default-Link.slot c.border.ensures c.tree_at.result c.tree_at.ensures) c.if-tree_at-tree.false

pub returns-in-Slot-default-ThisKey-clause-none : goal.returns-in-Slot-default-ThisKey-clause-none
returns-in-Slot-default-ThisKey-clause-none c =
    none_here c.args.arena.now c.args.walk.now.place.node c.args.key.now c.args.walk.now.layer c.args.tree c.facts.ensures.arena c.requires.kept.covers.remembered.there c.in-Slot-default-ThisKey.field-0
    (rw (c.in-Slot-default-ThisKey.field-1-is) at c.in-Slot-default-ThisKey.ensures)

pub returns-in-Slot-default-OtherLong-clause-none : goal.returns-in-Slot-default-OtherLong-clause-none
returns-in-Slot-default-OtherLong-clause-none c =
    none_long c.args.arena.now c.args.walk.now.place.node c.args.key.now c.args.walk.now.layer c.args.tree c.facts.ensures.arena c.requires.kept.covers.remembered.there c.in-Slot-default-OtherLong.field-0
    (rw (c.in-Slot-default-OtherLong.field-1-is) at c.in-Slot-default-OtherLong.ensures)
