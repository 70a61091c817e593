-- A lock that was given back, under which a layer was made.
use Rattle.std.proofs.Common.{inl, refl}
use Rattle.mt_core.proofs.writes.leave_layer.Goals as goal

pub leave-requires-clause-kept : goal.leave-requires-clause-kept
leave-requires-clause-kept c = (_, (c.requires.may.leaves c.requires.untold).0)

pub leave-requires-clause-room : goal.leave-requires-clause-room
leave-requires-clause-room c = (c.requires.may.leaves c.requires.untold).1

pub returns : goal.returns
returns c = λ tape accounts. inl (record { untold = c.requires.untold; leaves = c.leave.ensures; on = record { others = refl; rest = refl } })
