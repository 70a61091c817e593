-- A checkpoint in the format ascends.
use Rattle.std.proofs.Common.{subst}
use Rattle.mt_recover.{specs.Limits.IsReadSlot, proofs.BaseLaws.rising_ascends}
use Rattle.mt_recover.proofs.recovering.agreed.Goals as goal

pub returns-in-Some-Some-clause-ascend : goal.returns-in-Some-Some-clause-ascend
returns-in-Some-Some-clause-ascend c = rising_ascends c.in-Some-Some.loaded.pairs.items (subst IsReadSlot c.in-Some-Some.is-0 c.requires).rising
