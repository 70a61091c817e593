-- An image that changed in the range alone may be left; so may the durable one with more behind it.
use Rattle.std.proofs.Common.{◌+◌, length, refl}
use Rattle.mt_disk.proofs.Images.{still_left, kept_by_write, left_with_more}
use Rattle.mt_disk.proofs.laws.a_write_may_be_lost_or_torn.Goals as goal

pub returns-clause-lost : goal.returns-clause-lost
returns-clause-lost c = λ m range image left. still_left m range image image (λ i within out. refl) left

pub returns-clause-torn : goal.returns-clause-torn
returns-clause-torn c = λ m at bytes image le left.
    still_left m (at, at + length bytes) image _ (λ i within out. kept_by_write at bytes image i le out) left

pub returns-clause-behind : goal.returns-clause-behind
returns-clause-behind c = λ m range bytes. left_with_more m range bytes
