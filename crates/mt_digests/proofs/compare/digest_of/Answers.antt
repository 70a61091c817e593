use Rattle.std.proofs.Common.{◌≡◌, ◌∙◌, IsTrue, Some, drop, rules, sym, ap, subst}
use Rattle.std.proofs.lemmas.Result.{err_from_is_err_and}
use Rattle.mt_disk.specs.Disk.{DiskState, GoesUp}
use Rattle.mt_digests.specs.{declared.file_digest.FileDigest.FileDigest, Digests.digest_of}
use Rattle.mt_digests.proofs.DigestLaws.{open_has_one}
use Rattle.mt_digests.proofs.compare.digest_of.Goals as goal

pub returns-in_err-digest_behind-clause-count : goal.returns-in_err-digest_behind-clause-count
returns-in_err-digest_behind-clause-count g c =
    let p = err_from_is_err_and c.from_residual-in_err-digest_behind.result c.from_residual-in_err-digest_behind.ensures.1 in
    rw (p.1, p.2) (subst (λ n. GoesUp n (g.D.Disk.failures c.digest_behind.new.disk)) c.in_ok-is_shut.ensures.count c.in_err-digest_behind.ensures.count)

pub returns-clause-told : goal.returns-clause-told
returns-clause-told g c honest =
    let still = subst IsTrue (sym c.is_shut.ensures.honest) honest in
    let not_shut : IsTrue c.in_ok-is_shut.field-0 → ⊥ = search rules in
    let same = ap (λ (s : DiskState). digest_of (drop 1 s.image)) (c.in_ok-is_shut.ensures.same honest) in
    let told : c.in_ok-digest_behind.field-0 ≡ digest_of (drop 1 (g.D.Disk.state c.args.disk.now).image) = c.in_ok-digest_behind.ensures.told still ∙ same in
    ap (λ (d : FileDigest). Some d) told ∙ sym (open_has_one (g.D.Disk.state c.args.disk.now).image (λ e. not_shut ((c.in_ok-is_shut.ensures.told honest).1 e)))
