-- What is kept once the right half is made, and which nodes are held then.
use Rattle.std.proofs.Common.{rules}
use Rattle.mt_insert.proofs.Starting.{kept_start, holds_start}
use Rattle.mt_insert.proofs.phases.split_start.split_start.Goals as goal

pub returns-in-Ok-clause-starts : goal.returns-in-Ok-clause-starts
returns-in-Ok-clause-starts c = record {
  is = search rules;
  splits = search rules;
  walk = search rules;
  tape_stays = search rules;
  same = search rules;
  steps = search rules;
  contents = search rules;
  kept =
      λ task prepared same h. kept_start c.args.arena.now c.halve.new.arena c.args.least c.args.operation c.args.key.now task prepared c.args.walk.now c.args.splits.now c.halve.new.splits c.facts.ensures.arena c.facts.ensures.retired c.requires.forgotten c.requires.none c.in-Ok.ensures.is c.in-Ok.ensures.splits same h;
  holds =
      λ only. holds_start c.args.arena.now c.halve.new.arena c.args.least c.args.operation c.args.key.now c.requires.kept.0 c.requires.kept.1 c.args.walk.now c.args.splits.now c.halve.new.splits c.facts.ensures.arena c.facts.ensures.retired c.requires.forgotten c.requires.kept.3 c.requires.none c.in-Ok.ensures.is c.in-Ok.ensures.splits only;
}
