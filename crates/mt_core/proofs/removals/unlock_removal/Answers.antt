-- All locks of a removal, given back.
use Rattle.std.proofs.Common.{inl, inr, refl}
use Rattle.mt_core.proofs.removals.unlock_removal.Goals as goal

pub unlock-requires-clause-kept : goal.unlock-requires-clause-kept
unlock-requires-clause-kept c = (_, (c.requires.may.removal c.requires.told c.requires.none c.requires.removes).0)

pub unlock-requires-clause-room : goal.unlock-requires-clause-room
unlock-requires-clause-room c = (c.requires.may.removal c.requires.told c.requires.none c.requires.removes).1

pub returns : goal.returns
returns c = λ tape accounts. inr (inr (inl (record { told = c.requires.told; none = c.requires.none; removes = c.requires.removes; returns = c.unlock.ensures; rest = refl; others = refl })))
