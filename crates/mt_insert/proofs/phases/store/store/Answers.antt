-- That the holder may store its row, what that is for contents and tape, and that its lock may be given back then.
use Rattle.std.proofs.Common.{◌≡◌, rules, Some, ap, sym, subst, ◌∙◌}
use Rattle.std.specs.FinMap.{get, insert}
use Rattle.mt_rows.specs.Rows.{Columns}
use Rattle.mt_border.specs.Contents.{owned, row_of}
use Rattle.mt_tape.specs.declared.entry.Entry.{Entry as Write}
use Rattle.mt_arena.specs.Arena.{content_of}
use Rattle.mt_held.{specs.Taping.pushed, proofs.Places.{row_here, may_store}}
use Rattle.mt_insert.proofs.{Places.unlock_stored, Puts.places}
use Rattle.mt_insert.proofs.phases.store.store.Goals as goal

pub store-before-requires : goal.store-before-requires
store-before-requires c =
    let kept = c.requires.kept in
    record { may = (c.args.task.now.key, kept.pair, may_store c.args.arena.now c.args.operation c.args.task.now.key c.args.walk.now c.facts.ensures.arena kept.holds c.args.walk.now.slot kept.pair kept.in_slot kept.stable) }

pub returns : goal.returns
returns c = record {
  stamp = c.requires.kept.pair.stamp;
  was_there = let kept = c.requires.kept in
      subst (λ (was : Columns). get (content_of c.args.arena.now) (owned c.args.task.now.key) ≡ Some (record { stamp = kept.pair.stamp; row = was }))
      (sym (c.store-before.ensures.before kept.pair kept.stable))
      (row_here c.args.arena.now c.args.operation c.args.task.now.key c.args.walk.now c.facts.ensures.arena kept.holds c.args.walk.now.slot kept.pair kept.in_slot kept.stable);
  met = c.requires.kept.ready.met;
  is = search rules;
  places = let kept = c.requires.kept in
      let before = row_here c.args.arena.now c.args.operation c.args.task.now.key c.args.walk.now c.facts.ensures.arena kept.holds c.args.walk.now.slot kept.pair kept.in_slot kept.stable in
      let may = may_store c.args.arena.now c.args.operation c.args.task.now.key c.args.walk.now c.facts.ensures.arena kept.holds c.args.walk.now.slot kept.pair kept.in_slot kept.stable in
      places c.args.task.now c.args.step c.args.arena.now c.store-before.new.self c.args.tape.now c.push_write.new.tape (Some (row_of kept.pair)) c.args.prepared c.requires.put before kept.ready.row kept.ready.write
      (c.store-before.ensures.contents c.args.task.now.key kept.pair may ∙ ap (λ (row : Columns). insert (content_of c.args.arena.now) (owned c.args.task.now.key) (record { stamp = c.args.step; row = row })) c.into_row-row.ensures.row)
      (c.push_write.ensures ∙ ap (λ (e : Write). pushed c.args.tape.now (record e { step = c.args.step })) c.into_row-row.ensures.write);
  walk = search rules;
  same = search rules;
  guarantee = search rules;
  kept = let kept = c.requires.kept in
      rw (c.store-before.ensures.is kept.pair kept.stable, c.into_row-row.ensures.row)
      (unlock_stored c.args.arena.now c.args.operation c.args.task.now.key c.args.walk.now c.facts.ensures.arena kept.holds _ kept.pair c.args.prepared.row c.args.step kept.in_slot.in_range);
}
