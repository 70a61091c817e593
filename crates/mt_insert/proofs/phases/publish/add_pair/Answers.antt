-- That the holder may make the pair live that stands in the free slot, what that is for contents and tape, and that its lock may be given back then.
use Rattle.std.proofs.Common.{None, ap, sym, subst, ◌∙◌}
use Rattle.mt_border.specs.{declared.entry.Entry.Entry, Entry.order_of, Entries.{place_in, with_entry}}
use Rattle.mt_tape.specs.declared.entry.Entry.{Entry as Write}
use Rattle.mt_held.specs.{Holds.IsAtUnlock, Moves.walk_placed, Taping.pushed}
use Rattle.mt_arena.specs.{Arena.ArenaView, Edits.{with_slots, cells_with}, Accesses.{at, with_node, MayPublish}}
use Rattle.mt_held.proofs.Places.{none_here}
use Rattle.mt_insert.proofs.{Places.{filled_entry, may_publish, unlock_published}, Puts.places}
use Rattle.mt_insert.proofs.phases.publish.add_pair.Goals as goal

pub publish_filled-requires : goal.publish_filled-requires
publish_filled-requires c =
    let kept = c.requires.kept in
    let w = c.args.walk.now in
    let entry = filled_entry (at c.args.arena.now w.place.node) c.args.task.now.key w.layer c.args.prepared.row c.args.step c.slice-slice.result c.mark-mark.result c.slice-slice.ensures c.mark-mark.ensures.value kept.filled in
    record {
      may = (
        c.args.task.now.key,
        rw entry (may_publish c.args.arena.now c.args.operation c.args.task.now.key w c.facts.ensures.arena kept.holds c.args.prepared.row c.args.step kept.missing kept.room),
      );
      marked = kept.marked;
    }

pub returns-clause-is : goal.returns-clause-is
returns-clause-is c =
    let v = c.args.arena.now in
    let w = c.args.walk.now in
    let n = at v w.place.node in
    let entry = filled_entry n c.args.task.now.key w.layer c.args.prepared.row c.args.step c.slice-slice.result c.mark-mark.result c.slice-slice.ensures c.mark-mark.ensures.value c.requires.kept.filled in
    c.publish_filled.ensures.is ∙ ap (λ (e : Entry). with_node v w.place.node (with_slots n (with_entry n.slots e) (cells_with n.cells (place_in n.slots (order_of e)) e))) entry

pub returns-clause-places : goal.returns-clause-places
returns-clause-places c =
    let kept = c.requires.kept in
    let v = c.args.arena.now in
    let w = c.args.walk.now in
    let entry = filled_entry (at v w.place.node) c.args.task.now.key w.layer c.args.prepared.row c.args.step c.slice-slice.result c.mark-mark.result c.slice-slice.ensures c.mark-mark.ensures.value kept.filled in
    let may = subst (λ (e : Entry). MayPublish v w.place.node c.args.operation c.args.task.now.key e) (sym entry)
    (may_publish v c.args.operation c.args.task.now.key w c.facts.ensures.arena kept.holds c.args.prepared.row c.args.step kept.missing kept.room) in
    places c.args.task.now c.args.step v c.publish_filled.new.self c.args.tape.now c.push_write.new.tape None c.args.prepared c.requires.put
    (none_here v c.args.operation c.args.task.now.key w c.facts.ensures.arena kept.holds kept.missing) kept.left.row kept.left.write
    (c.publish_filled.ensures.contents c.args.task.now.key _ may (ap (λ (e : Entry). e.held) entry)) (c.push_write.ensures ∙ ap (λ (e : Write). pushed c.args.tape.now (record e { step = c.args.step })) c.into_write.ensures)

pub returns-clause-kept : goal.returns-clause-kept
returns-clause-kept c =
    let kept = c.requires.kept in
    let v = c.args.arena.now in
    let w = c.args.walk.now in
    let n = at v w.place.node in
    let entry = filled_entry n c.args.task.now.key w.layer c.args.prepared.row c.args.step c.slice-slice.result c.mark-mark.result c.slice-slice.ensures c.mark-mark.ensures.value kept.filled in
    let is = c.publish_filled.ensures.is ∙ ap (λ (e : Entry). with_node v w.place.node (with_slots n (with_entry n.slots e) (cells_with n.cells (place_in n.slots (order_of e)) e))) entry in
    subst (λ (a : ArenaView). IsAtUnlock a c.args.operation (walk_placed w)) (sym is)
    (unlock_published v c.args.operation c.args.task.now.key w c.facts.ensures.arena kept.holds c.args.prepared.row c.args.step)
