-- That the contents have no row before, and what is kept once the keys are parted.
use Rattle.std.proofs.Common.{rules}
use Rattle.mt_insert.proofs.PartingKeys.{none_here, kept_with, kept_without}
use Rattle.mt_insert.proofs.phases.split_move.split_move.Goals as goal

pub returns-then-is_new : goal.returns-then-is_new
returns-then-is_new c =
    let v = c.args.arena.now in
    let s = c.args.splits.now in
    let w = c.args.walk.now in
    let kept = kept_with v c.args.operation c.args.task.now c.args.prepared w s c.facts.ensures.arena c.requires.kept c.args.prepared.row c.args.step
    c.part_with.new.arena c.part_with.ensures.nodes_alone c.part_with.ensures.is in
    rw c.if-is_new.true (record {
      parts = record {
        missing = none_here v c.args.operation c.args.task.now c.args.prepared w s c.facts.ensures.arena c.requires.kept;
        met = c.requires.kept.ready.met;
        nodes_alone = search rules;
        walk = search rules;
        same = search rules;
        guarantee = search rules;
        kept = rw c.phase_after_parting-walk.ensures kept.0;
        holds = kept.1;
      };
      room = search rules;
      more = search rules;
      others = search rules;
      is = search rules;
      places = search rules;
    })

pub returns-else-is_new : goal.returns-else-is_new
returns-else-is_new c =
    let v = c.args.arena.now in
    let s = c.args.splits.now in
    let w = c.args.walk.now in
    let kept = kept_without v c.args.operation c.args.task.now c.args.prepared w s c.facts.ensures.arena c.requires.kept c.part_without.new.arena
    c.part_without.ensures.nodes_alone c.part_without.ensures.is in
    rw c.if-is_new.false (record {
      parts = record {
        missing = none_here v c.args.operation c.args.task.now c.args.prepared w s c.facts.ensures.arena c.requires.kept;
        met = c.requires.kept.ready.met;
        nodes_alone = search rules;
        walk = search rules;
        same = search rules;
        guarantee = search rules;
        kept = rw c.phase_after_parting-walk.ensures kept.0;
        holds = kept.1;
      };
      full = search rules;
      is = search rules;
      contents = search rules;
      uncounted = search rules;
      tape_is = search rules;
    })
