-- What the contents have at the missing key, and that the lock may be given back at the quota too.
use Rattle.std.proofs.Common.{rules, refl}
use Rattle.mt_held.proofs.Places.{none_here, unlock_full}
use Rattle.mt_insert.proofs.phases.publish.publish.Goals as goal

pub returns-then-not-count_new : goal.returns-then-not-count_new
returns-then-not-count_new c = record {
  missing = let kept = c.requires.kept in
      none_here c.args.arena.now c.args.operation c.args.task.now.key c.args.walk.now c.facts.ensures.arena kept.holds kept.missing;
  met = c.requires.kept.left.met;
  full = search rules;
  stays = refl;
  uncounted = search rules;
  tape_is = search rules;
  walk = refl;
  same = search rules;
  guarantee = search rules;
  kept = unlock_full c.args.arena.now c.args.operation c.args.task.now.key c.args.walk.now c.facts.ensures.arena c.requires.kept.holds;
}

pub returns : goal.returns
returns c = record {
  missing = let kept = c.requires.kept in
      none_here c.args.arena.now c.args.operation c.args.task.now.key c.args.walk.now c.facts.ensures.arena kept.holds kept.missing;
  met = c.requires.kept.left.met;
  room = search rules;
  more = search rules;
  others = search rules;
  is = search rules;
  places = search rules;
  walk = search rules;
  same = search rules;
  guarantee = search rules;
  kept = search rules;
}
