-- That a removal which meets a link may load its tree, and goes on there; and that the key is missing where the node has nothing of it, or another long one.
use Rattle.std.proofs.Common.{refl}
use Rattle.mt_border.specs.{declared.entry.Find.TheVariants.{Missing, Slot}, declared.entry.FoundKind.TheVariants.OtherLong}
use Rattle.mt_arena.specs.Accesses.{at}
use Rattle.mt_held.proofs.{Looks.{link_there, live_there, leads_there}, Places.{meets_link, none_here}}
use Rattle.mt_remove.proofs.Looking.{none_beside}
use Rattle.mt_remove.proofs.phases.judge.judge.Goals as goal

pub tree_at-tree-requires-clause-link : goal.tree_at-tree-requires-clause-link
tree_at-tree-requires-clause-link c =
    let found = rw (c.in-Slot-default-Link.field-1-is) at c.in-Slot-default-Link.ensures in
    link_there (at c.args.arena.now c.args.walk.now.place.node) c.border.result.now _ _ _ _ c.in-Slot-default-Link.slot c.border.ensures c.args.task.now.key c.args.walk.now.layer found

pub tree_at-tree-requires-clause-live : goal.tree_at-tree-requires-clause-live
tree_at-tree-requires-clause-live c =
    let found = rw (c.in-Slot-default-Link.field-1-is) at c.in-Slot-default-Link.ensures in
    live_there (at c.args.arena.now c.args.walk.now.place.node) c.border.result.now _ _ _ _ c.in-Slot-default-Link.slot c.border.ensures c.args.task.now.key c.args.walk.now.layer _ found

pub returns-in-Slot-default-Link : goal.returns-in-Slot-default-Link
returns-in-Slot-default-Link c =
    let found = rw (c.in-Slot-default-Link.field-1-is) at c.in-Slot-default-Link.ensures in
    let leads = leads_there (at c.args.arena.now c.args.walk.now.place.node) c.border.result.now _ _ _ _ c.in-Slot-default-Link.slot c.border.ensures c.tree_at-tree.result c.tree_at-tree.ensures in (
      refl,
      record {
        slot = c.in-Slot-default-Link.slot;
        in_slot = found;
        tree = c.tree_at-tree.result;
        leads = leads;
        goes = c.go_below.ensures;
        kept = rw (c.go_below.ensures.is, c.go_below.ensures.walk)
            (meets_link c.args.arena.now c.args.operation c.args.task.now.key c.args.walk.now c.facts.ensures.arena c.requires.kept c.in-Slot-default-Link.slot c.tree_at-tree.result found leads);
      },
    )

pub returns-in-Slot-default-OtherLong : goal.returns-in-Slot-default-OtherLong
returns-in-Slot-default-OtherLong c = (
  refl,
  record {
    found = Slot c.in-Slot-default-OtherLong.field-0 OtherLong;
    finds = rw (c.in-Slot-default-OtherLong.field-1-is) at c.in-Slot-default-OtherLong.ensures;
    absent = tt;
    missing = none_beside c.args.arena.now c.args.operation c.args.task.now.key c.args.walk.now c.facts.ensures.arena c.requires.kept c.in-Slot-default-OtherLong.field-0
        (rw (c.in-Slot-default-OtherLong.field-1-is) at c.in-Slot-default-OtherLong.ensures);
    unlocks = c.unlock.ensures;
  },
)

pub returns-in-Missing : goal.returns-in-Missing
returns-in-Missing c = (
  refl,
  record {
    found = Missing;
    finds = c.in-Missing.ensures;
    absent = tt;
    missing = none_here c.args.arena.now c.args.operation c.args.task.now.key c.args.walk.now c.facts.ensures.arena c.requires.kept c.in-Missing.ensures;
    unlocks = c.unlock-in-Missing.ensures;
  },
)
