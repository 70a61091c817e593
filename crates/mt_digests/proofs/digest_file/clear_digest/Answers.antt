use Rattle.std.proofs.Common.{arith}
use Rattle.mt_digests.specs.Digests.{digest_bytes}
use Rattle.mt_digests.proofs.digest_file.clear_digest.Goals as goal

pub returns-clause-leaves : goal.returns-clause-leaves
returns-clause-leaves g c honest other first kept = c.give_up.ensures.leaves honest (digest_bytes other) first (omega arith) kept
