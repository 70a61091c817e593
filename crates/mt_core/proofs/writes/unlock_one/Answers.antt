-- The lock of the border node, given back.
use Rattle.std.proofs.Common.{inr, refl}
use Rattle.mt_core.proofs.writes.unlock_one.Goals as goal

pub unlock-requires-clause-kept : goal.unlock-requires-clause-kept
unlock-requires-clause-kept c = (c.requires.may.one c.requires.told c.requires.none c.requires.stays).0

pub unlock-requires-clause-room : goal.unlock-requires-clause-room
unlock-requires-clause-room c = (c.requires.may.one c.requires.told c.requires.none c.requires.stays).1

pub returns : goal.returns
returns c = λ tape accounts. inr (inr (inr (record { told = c.requires.told; none = c.requires.none; stays = c.requires.stays; unlocks = c.unlock.ensures; on = record { others = refl; rest = refl } })))
