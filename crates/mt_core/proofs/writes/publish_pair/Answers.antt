-- A pair that was made live, or a full quota.
use Rattle.mt_core.proofs.WriteBodies.{published_by}
use Rattle.mt_core.proofs.writes.publish_pair.Goals as goal

pub take_ready-prepared-requires : goal.take_ready-prepared-requires
take_ready-prepared-requires c = c.requires.place.has

pub publish-is_new-requires-clause-put : goal.publish-is_new-requires-clause-put
publish-is_new-requires-clause-put c = c.requires.put

pub publish-is_new-requires-clause-kept : goal.publish-is_new-requires-clause-kept
publish-is_new-requires-clause-kept c = c.requires.place.kept _ c.take_ready-prepared.ensures.ready

pub publish-is_new-requires-clause-reserved : goal.publish-is_new-requires-clause-reserved
publish-is_new-requires-clause-reserved c = c.requires.place.room

pub publish-is_new-requires-clause-later : goal.publish-is_new-requires-clause-later
publish-is_new-requires-clause-later c = c.requires.place.later

pub returns : goal.returns
returns c =
    published_by c.args.id c.args.step _ _ c.args.operation.now c.publish-is_new.new.walk _ _ _ c.publish-is_new.result c.take_ready-prepared.ensures.ready c.take_ready-prepared.ensures.none c.put_told.ensures c.publish-is_new.ensures
