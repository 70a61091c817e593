-- Keys that were parted, with the new pair or without it.
use Rattle.mt_core.proofs.WriteBodies.{parted_by}
use Rattle.mt_core.proofs.writes.part_keys.Goals as goal

pub take_ready-prepared-requires : goal.take_ready-prepared-requires
take_ready-prepared-requires c = c.requires.place.has

pub split_move-is_new-requires-clause-put : goal.split_move-is_new-requires-clause-put
split_move-is_new-requires-clause-put c = c.requires.put

pub split_move-is_new-requires-clause-kept : goal.split_move-is_new-requires-clause-kept
split_move-is_new-requires-clause-kept c = c.requires.place.kept _ c.take_ready-prepared.ensures.ready

pub split_move-is_new-requires-clause-reserved : goal.split_move-is_new-requires-clause-reserved
split_move-is_new-requires-clause-reserved c = c.requires.place.room

pub split_move-is_new-requires-clause-later : goal.split_move-is_new-requires-clause-later
split_move-is_new-requires-clause-later c = c.requires.place.later

pub returns : goal.returns
returns c =
    parted_by c.args.id c.args.step _ _ c.args.operation.now c.split_move-is_new.new.walk _ _ _ c.split_move-is_new.result c.take_ready-prepared.ensures.ready c.take_ready-prepared.ensures.none c.put_told.ensures c.split_move-is_new.ensures
