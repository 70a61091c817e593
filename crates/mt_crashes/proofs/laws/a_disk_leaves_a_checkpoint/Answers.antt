-- A slot is read by its gate.
use Rattle.mt_crashes.proofs.SlotDisks.{left_slot}
use Rattle.mt_crashes.proofs.laws.a_disk_leaves_a_checkpoint.Goals as goal

pub returns : goal.returns
returns c may first disk image kept left = left_slot may first disk image kept left
