-- One range more adds its length.
use Rattle.std.proofs.Common.{refl}
use Rattle.mt_disk.proofs.Debts.{debt_written}
use Rattle.mt_disk.proofs.laws.a_sync_pays_the_debt.Goals as goal

pub returns-clause-pays : goal.returns-clause-pays
returns-clause-pays c = λ s. refl

pub returns-clause-adds : goal.returns-clause-adds
returns-clause-adds c = λ at count result old new tried. debt_written at count result old new tried
