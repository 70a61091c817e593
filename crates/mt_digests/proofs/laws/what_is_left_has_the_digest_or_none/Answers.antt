use Rattle.mt_digests.proofs.DigestLaws.{left_has_it_or_none}
use Rattle.mt_digests.proofs.laws.what_is_left_has_the_digest_or_none.Goals as goal

pub returns : goal.returns
returns c = λ digest image is left. left_has_it_or_none digest is image left
