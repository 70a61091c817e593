-- That the keys may be parted with the new pair among them, and what that is for contents and tape.
use Rattle.std.proofs.Common.{None, refl, ap, sym, subst, ◌∙◌}
use Rattle.mt_border.specs.declared.entry.Entry.{Entry}
use Rattle.mt_operation.specs.declared.splits.Halves.{Halves}
use Rattle.mt_tape.specs.declared.entry.Entry.{Entry as Write}
use Rattle.mt_held.specs.Taping.{pushed}
use Rattle.mt_arena.specs.Several.{MayPlace}
use Rattle.mt_insert.{specs.KeptSplits.last_of, proofs.{PartingKeys.{none_here, live_here, may_place}, Places.made_entry, Puts.places}}
use Rattle.mt_insert.proofs.phases.split_move.part_with.Goals as goal

pub split_border-requires-clause-live : goal.split_border-requires-clause-live
split_border-requires-clause-live c =
    rw c.last-left.ensures (live_here c.args.arena.now c.args.operation c.args.task.now c.args.prepared c.args.walk.now c.args.splits.now c.facts.ensures.arena c.requires.kept)

pub split_border-requires-clause-entry : goal.split_border-requires-clause-entry
split_border-requires-clause-entry c = (
  refl,
  refl,
  (
    c.args.task.now.key,
    rw (c.last-left.ensures, made_entry c.args.task.now.key c.args.walk.now.layer _ _ _ _ _ c.new_entry-entry.ensures c.into_pair-pair.ensures.pair)
        (may_place c.args.arena.now c.args.operation c.args.task.now c.args.prepared c.args.walk.now c.args.splits.now c.facts.ensures.arena c.requires.kept c.args.prepared.row c.args.step),
  ),
)

pub returns-clause-places : goal.returns-clause-places
returns-clause-places c =
    let may = subst (λ (h : Halves). MayPlace c.args.arena.now h.left c.args.operation c.args.task.now.key c.new_entry-entry.result) (sym c.last-left.ensures)
    (subst (λ (e : Entry). MayPlace c.args.arena.now (last_of c.args.splits.now).left c.args.operation c.args.task.now.key e) (sym (made_entry c.args.task.now.key c.args.walk.now.layer _ _ _ _ _ c.new_entry-entry.ensures c.into_pair-pair.ensures.pair))
    (may_place c.args.arena.now c.args.operation c.args.task.now c.args.prepared c.args.walk.now c.args.splits.now c.facts.ensures.arena c.requires.kept c.args.prepared.row c.args.step)) in
    places c.args.task.now c.args.step c.args.arena.now c.split_border.new.self c.args.tape.now c.push_write.new.tape None c.args.prepared c.requires.put
    (none_here c.args.arena.now c.args.operation c.args.task.now c.args.prepared c.args.walk.now c.args.splits.now c.facts.ensures.arena c.requires.kept) c.requires.kept.ready.row c.requires.kept.ready.write
    (c.split_border.ensures.contents c.args.task.now.key _ _ refl may (ap (λ (e : Entry). e.held) (made_entry c.args.task.now.key c.args.walk.now.layer _ _ _ _ _ c.new_entry-entry.ensures c.into_pair-pair.ensures.pair))) (c.push_write.ensures ∙ ap (λ (e : Write). pushed c.args.tape.now (record e { step = c.args.step })) c.into_pair-pair.ensures.write)
