-- That the halves may be given back once the node above them was, and what both leave.
use Rattle.std.proofs.Common.{rules}
use Rattle.mt_insert.proofs.Unlocking.{rest_returns, rest_room, all_returned, holds_nothing, all_step}
use Rattle.mt_insert.proofs.phases.unlock.unlock_all.Goals as goal

pub unlock_halves-requires-clause-kept : goal.unlock_halves-requires-clause-kept
unlock_halves-requires-clause-kept c =
    rw c.unlock_above.ensures.splits (rest_returns c.args.arena.now c.args.operation c.args.splits.now c.requires.kept c.unlock_above.new.arena c.unlock_above.ensures.is c.unlock_above.ensures.none)

pub unlock_halves-requires-clause-room : goal.unlock_halves-requires-clause-room
unlock_halves-requires-clause-room c =
    rw c.unlock_above.ensures.splits
    (rest_room c.args.arena.now c.args.operation c.args.splits.now c.requires.kept c.unlock_above.new.arena c.unlock_above.ensures.is c.unlock_above.ensures.none c.requires.room)

pub returns : goal.returns
returns c = record {
  is =
      all_returned c.args.arena.now c.args.operation c.args.splits.now c.requires.kept c.unlock_above.new.arena c.unlock_above.ensures.is c.unlock_above.ensures.none c.unlock_halves.new.arena (rw c.unlock_above.ensures.splits at c.unlock_halves.ensures.is);
  walk = search rules;
  keeps = record {
    same = search rules;
    guarantee =
        all_step c.args.arena.now c.args.operation c.args.splits.now c.requires.kept c.unlock_above.new.arena c.unlock_above.ensures.is c.unlock_above.ensures.none c.unlock_halves.new.arena (rw c.unlock_above.ensures.splits at c.unlock_halves.ensures.is)
        c.facts.ensures.arena c.unlock_above.ensures.step c.unlock_halves.ensures.step;
    contents = search rules;
  };
  unsplit = search rules;
  nothing =
      holds_nothing c.args.arena.now c.args.operation c.args.splits.now c.requires.kept c.unlock_above.new.arena c.unlock_above.ensures.is c.unlock_above.ensures.none c.unlock_halves.new.arena (rw c.unlock_above.ensures.splits at c.unlock_halves.ensures.is);
}
