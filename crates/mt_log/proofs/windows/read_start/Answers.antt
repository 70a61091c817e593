-- What the first bytes of a file begin with, the file does.
use Rattle.std.proofs.{Common.{◌∙◌, length, drop, ap, arith, length-append}, lemmas.Result.{IfOk-weaker, IfErr-weaker}}
use Rattle.mt_log.{specs.Stops.{begin_bytes, IsStart, IsBadStart, IsStartOf, IsFaultOf}, proofs.ReadLaws.{start_of_image, fault_of_start}}
use Rattle.mt_log.proofs.windows.read_start.Goals as goal

pub returns-clause-ok : goal.returns-clause-ok
returns-clause-ok g c =
    let w = c.deref.result.now in
    let size = c.in_ok-bytes.ensures.ok.size in
    IfOk-weaker c.start_of.result (IsStart c.args.kind w) (IsStartOf c.args.kind g.D.Disk.is_honest g.D.Disk.state c.args.disk.now c.args.len)
    (λ start is. record {
      limits = is.limits;
      of_kind = is.of_kind;
      whole = omega (arith, size, ap length c.deref.ensures.value, ap length is.header, is.limits.place, length-append (begin_bytes start) (drop start.place w));
      told =
          start_of_image g.D.Disk.is_honest g.D.Disk.state c.args.disk.now c.args.len c.args.kind w start (λ honest has. c.deref.ensures.value ∙ c.in_ok-bytes.ensures.ok.told honest has) is;
    })
    c.start_of.ensures.ok

pub returns-clause-err : goal.returns-clause-err
returns-clause-err g c =
    let w = c.deref.result.now in
    IfErr-weaker c.start_of.result (IsBadStart c.args.kind w) (IsFaultOf c.args.kind g.D.Disk.is_honest g.D.Disk.state c.args.disk.now c.args.len)
    (λ e bad. fault_of_start g.D.Disk.is_honest g.D.Disk.state c.args.disk.now c.args.len c.args.kind w e (λ honest has. c.deref.ensures.value ∙ c.in_ok-bytes.ensures.ok.told honest has) bad)
    c.start_of.ensures.err
