use Rattle.mt_readings.proofs.Readings.{below_link, behind_link}
use Rattle.mt_readings.proofs.reads.a_fence_parts_a_tree.Goals as goal

pub returns-clause-below : goal.returns-clause-below
returns-clause-below c = λ prefix layer link fence key at of lt. below_link prefix layer link.slice fence key at of lt

pub returns-clause-behind : goal.returns-clause-behind
returns-clause-behind c = λ prefix layer link fence key at of le. behind_link prefix layer link.slice fence key at of le
