-- That a root may be made over the halves, and that all may be given back then.
use Rattle.std.proofs.Common.{rules}
use Rattle.mt_arena.specs.Several.{interior_number, with_root_at}
use Rattle.mt_insert.specs.KeptSplits.{last_of}
use Rattle.mt_insert.proofs.GrowingRoots.{may_grow, has_top, all_return, holds_grown}
use Rattle.mt_insert.proofs.phases.root_grow.root_grow.Goals as goal

pub grow_root-requires-clause-may : goal.grow_root-requires-clause-may
grow_root-requires-clause-may c = rw c.last-left.ensures (may_grow c.args.arena.now c.args.operation c.args.splits.now c.facts.ensures.arena c.requires.kept)

pub returns-clause-grows : goal.returns-clause-grows
returns-clause-grows c =
    let v = c.args.arena.now in
    let o = c.args.operation in
    let s = c.args.splits.now in
    let made = c.in_ok-grow_root.ensures in
    let u = with_root_at v (last_of s).left (last_of s).right c.args.least o in
    let top = interior_number c.args.least v in
    let has = has_top v o s c.facts.ensures.arena c.requires.kept c.args.least c.facts.ensures.retired c.requires.forgotten in
    record {
      is = search rules;
      walk = search rules;
      splits = search rules;
      on = record {
        same = search rules;
        steps = search rules;
        contents = search rules;
        kept =
            rw (made.is, c.last-left.ensures, made.number)
            (all_return v o s c.facts.ensures.arena c.requires.kept u top has (rw (made.is, c.last-left.ensures, made.number) at made.settled));
        holds = rw (made.is, c.last-left.ensures, made.number) (holds_grown v o s c.facts.ensures.arena c.requires.kept u top has);
      };
    }
