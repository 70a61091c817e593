-- What the bytes after the gate tell, the file has.
use Rattle.std.proofs.lemmas.Result.{err_from_is_err_and}
use Rattle.mt_log_generations.proofs.Openings.{log_after, fault_after}
use Rattle.mt_log_generations.proofs.header_file.read_open.Goals as goal

pub returns-in_err-header-clause-err : goal.returns-in_err-header-clause-err
returns-in_err-header-clause-err g c =
    let p = err_from_is_err_and c.from_residual-in_err-header.result c.from_residual-in_err-header.ensures.1 in
    rw (p.1, p.2) (fault_after g.D.Disk.is_honest g.D.Disk.state c.args.disk.now c.args.len c.read.new.out c.in_err-header.field-0.0 (λ honest. (c.in_ok-read.ensures.told honest).bytes) c.in_err-header.ensures.err)

pub returns-clause-ok : goal.returns-clause-ok
returns-clause-ok g c = (
  c.in_ok-header.ensures.ok.header,
  λ honest long behind is. log_after (g.D.Disk.state c.args.disk.now).image behind is c.read.new.out c.in_ok-header.header (c.in_ok-read.ensures.told honest).bytes c.in_ok-header.ensures.ok,
)
