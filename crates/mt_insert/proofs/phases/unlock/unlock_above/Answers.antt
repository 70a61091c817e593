-- The lock of the node above the halves may be given back.
use Rattle.std.proofs.Common.{sym, ◌∙◌}
use Rattle.mt_insert.proofs.phases.unlock.unlock_above.Goals as goal

pub unlock-requires-clause-held : goal.unlock-requires-clause-held
unlock-requires-clause-held c = (c.requires.kept.above c.in-Some.above (sym c.take.ensures.value ∙ c.in-Some.is)).held
