-- After the first reading a crash may leave that alone.
use Rattle.mt_checkpoint.proofs.SlotReads.{read_again}
use Rattle.mt_checkpoint.proofs.laws.a_slot_is_read_again_as_it_was.Goals as goal

pub returns : goal.returns
returns g c may first old seen new x y honest kept was again = read_again g.D.Disk.is_honest g.D.Disk.state g.D.Disk.failures may first old seen new _ _ honest kept was again
