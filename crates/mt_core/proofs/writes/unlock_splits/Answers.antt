-- The locks of all nodes of the splits, given back.
use Rattle.std.proofs.Common.{inl, inr, refl}
use Rattle.mt_core.proofs.writes.unlock_splits.Goals as goal

pub unlock_all-requires-clause-kept : goal.unlock_all-requires-clause-kept
unlock_all-requires-clause-kept c = (c.requires.may.all c.requires.told c.requires.some).0

pub unlock_all-requires-clause-room : goal.unlock_all-requires-clause-room
unlock_all-requires-clause-room c = (c.requires.may.all c.requires.told c.requires.some).1

pub returns : goal.returns
returns c = λ tape accounts. inr (inl (record { told = c.requires.told; some = c.requires.some; returns = c.unlock_all.ensures; rest = refl; others = refl }))
