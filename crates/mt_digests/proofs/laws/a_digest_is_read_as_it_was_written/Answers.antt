use Rattle.mt_digests.proofs.DigestLaws.{durable_has_it, closed_has_none}
use Rattle.mt_digests.proofs.laws.a_digest_is_read_as_it_was_written.Goals as goal

pub returns-clause-written : goal.returns-clause-written
returns-clause-written c = λ digest s is has. durable_has_it digest is s has

pub returns-clause-cleared : goal.returns-clause-cleared
returns-clause-cleared c = λ image closed. closed_has_none image closed
