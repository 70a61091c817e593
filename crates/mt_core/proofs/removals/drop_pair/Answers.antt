-- The pair of the key, taken out.
use Rattle.mt_rows.specs.declared.reply.Reply.TheVariants.{Removed}
use Rattle.mt_core.proofs.WriteBodies.{placed_is}
use Rattle.mt_core.proofs.removals.drop_pair.Goals as goal

pub take_ready-prepared-requires : goal.take_ready-prepared-requires
take_ready-prepared-requires c = c.requires.place.has

pub drop_key-requires-clause-removal : goal.drop_key-requires-clause-removal
drop_key-requires-clause-removal c = c.requires.removal

pub drop_key-requires-clause-kept : goal.drop_key-requires-clause-kept
drop_key-requires-clause-kept c = c.requires.place.kept _ c.take_ready-prepared.ensures.ready

pub drop_key-requires-clause-reserved : goal.drop_key-requires-clause-reserved
drop_key-requires-clause-reserved c = c.requires.place.room

pub drop_key-requires-clause-later : goal.drop_key-requires-clause-later
drop_key-requires-clause-later c = c.requires.place.later

pub drop_key-requires-clause-free : goal.drop_key-requires-clause-free
drop_key-requires-clause-free c = c.requires.free

pub drop_key-requires-clause-counted : goal.drop_key-requires-clause-counted
drop_key-requires-clause-counted c = c.requires.counted

pub returns : goal.returns
returns c = record {
  drops = c.drop_key.ensures;
  others = placed_is (record c.args.operation.now { removal = c.drop_key.new.removal }) c.drop_key.new.walk _ _ Removed c.args.step c.take_ready-prepared.ensures.none c.placed.ensures;
}
