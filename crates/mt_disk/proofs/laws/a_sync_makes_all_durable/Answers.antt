-- After a sync nothing is dirty, so what may be left is what is durable.
use Rattle.std.proofs.Common.{refl}
use Rattle.mt_disk.{specs.Disk.synced, proofs.Images.all_durable}
use Rattle.mt_disk.proofs.laws.a_sync_makes_all_durable.Goals as goal

pub returns : goal.returns
returns c = λ s image. all_durable (synced s).now image refl
