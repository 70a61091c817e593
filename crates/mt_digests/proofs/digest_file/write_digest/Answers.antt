-- The file has no digest before this one is written.
use Rattle.std.proofs.Common.{IsTrue, [], sym, subst}
use Rattle.mt_gates.proofs.Crash.{either_shut, either_begun}
use Rattle.mt_digests.specs.Digests.{digest_bytes}
use Rattle.mt_digests.proofs.digest_file.write_digest.Goals as goal

pub returns-in_err-clear_digest-clause-leaves : goal.returns-in_err-clear_digest-clause-leaves
returns-in_err-clear_digest-clause-leaves g c honest other first kept =
    either_shut (digest_bytes other) (digest_bytes c.args.digest) first (g.D.Disk.state c.clear_digest.new.disk) (c.clear_digest.ensures.leaves honest other first kept)

pub returns-clause-leaves : goal.returns-clause-leaves
returns-clause-leaves g c honest other first kept =
    let mid = g.D.Disk.state c.clear_digest.new.disk in
    let new = g.D.Disk.state c.write_cleared.new.disk in
    let still = subst IsTrue (sym c.clear_digest.ensures.honest) honest in
    let gone = c.in_ok-clear_digest.ensures.cleared honest in
    either_begun (digest_bytes other) (digest_bytes c.args.digest) first mid (c.clear_digest.ensures.leaves honest other first kept) new
    (c.write_cleared.ensures.leaves still (record { closed = record { behind = []; whole = gone.image }; durable = gone.durable }))
