-- each edit keeps them
use Rattle.mt_border.proofs.KeptSlots.{kept_rewrites, kept_fills, kept_publishes, kept_lets_go}
use Rattle.mt_border.proofs.keeping.edits_keep_slots.Goals as goal

pub returns-clause-rewrites : goal.returns-clause-rewrites
returns-clause-rewrites c = kept_rewrites

pub returns-clause-fills : goal.returns-clause-fills
returns-clause-fills c = kept_fills

pub returns-clause-publishes : goal.returns-clause-publishes
returns-clause-publishes c = kept_publishes

pub returns-clause-lets_go : goal.returns-clause-lets_go
returns-clause-lets_go c = kept_lets_go
