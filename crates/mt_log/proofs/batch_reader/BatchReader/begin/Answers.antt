-- The file of a log at rest has its bytes and a closed gate, and begins as the log does.
use Rattle.std.proofs.{Common.{◌≡◌, ◌∙◌, ◌+◌, ◌∷◌, [], length, refl, ap, arith, length-append}, lemmas.Result.err_from_is_err_and}
use Rattle.mt_log.{specs.Contents.log_bytes, proofs.RereadLaws.{all_ahead, is_log}}
use Rattle.mt_log.proofs.batch_reader.BatchReader.begin.Goals as goal

pub returns-in_err-start-clause-all : goal.returns-in_err-start-clause-all
returns-in_err-start-clause-all g c = λ honest d is of.
    let p = err_from_is_err_and c.from_residual.result c.from_residual.ensures.1 in
    let disk = c.args.log.now.disk in
    let image = (g.D.Disk.state disk).image in
    let whole : c.end-len.result + 1 ≡ length image = omega (arith, c.end-len.ensures, is.rest.end, ap length is.rest.image, length-append (log_bytes d) (0 ∷ [])) in
    rw (p.1, p.2) (is_log c.args.kind d image is.contents is.rest.image g.D.Disk.is_honest g.D.Disk.state disk (c.end-len.result + 1) c.in_err-start.field-0.0 of honest refl whole c.in_err-start.ensures.err)

pub returns-clause-all : goal.returns-clause-all
returns-clause-all g c = λ honest d is of.
    let image = (g.D.Disk.state c.args.log.now.disk).image in
    let whole : c.end-len.result + 1 ≡ length image = omega (arith, c.end-len.ensures, is.rest.end, ap length is.rest.image, length-append (log_bytes d) (0 ∷ [])) in
    all_ahead c.args.kind d image is.contents is.rest.image c.in_ok-start.start c.new.result (c.in_ok-start.ensures.ok.told honest whole) c.new.ensures.version (c.new.ensures.len ∙ whole) c.new.ensures.place c.new.ensures.head
