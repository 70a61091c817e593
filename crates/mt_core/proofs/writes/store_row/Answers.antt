-- A row that was written over the one of its key.
use Rattle.std.proofs.Common.{refl}
use Rattle.mt_rows.specs.declared.reply.Reply.TheVariants.{Replaced}
use Rattle.mt_core.proofs.WriteBodies.{placed_is}
use Rattle.mt_core.proofs.writes.store_row.Goals as goal

pub take_ready-prepared-requires : goal.take_ready-prepared-requires
take_ready-prepared-requires c = c.requires.place.has

pub store-requires-clause-put : goal.store-requires-clause-put
store-requires-clause-put c = c.requires.put

pub store-requires-clause-kept : goal.store-requires-clause-kept
store-requires-clause-kept c = c.requires.place.kept _ c.take_ready-prepared.ensures.ready

pub store-requires-clause-reserved : goal.store-requires-clause-reserved
store-requires-clause-reserved c = c.requires.place.room

pub store-requires-clause-later : goal.store-requires-clause-later
store-requires-clause-later c = c.requires.place.later

pub returns : goal.returns
returns c = λ accounts. record {
  was = _;
  places = record {
    prepared = _;
    has = c.take_ready-prepared.ensures.ready;
    placed = c.store.ensures;
    others = placed_is c.args.operation.now c.store.new.walk _ _ Replaced c.args.step c.take_ready-prepared.ensures.none c.placed.ensures;
  };
  accounts = refl;
}
