-- The text of a log without batches, after its open outer gate, is a log at rest.
use Rattle.std.proofs.Common.{sym, subst, refl}
use Rattle.mt_log.{specs.{declared.log_file.LogFile.LogFile, Numbered.Begun}, proofs.NumberedLaws.{begun_rest, begun_contents, not_begun}}
use Rattle.mt_log_generations.specs.{Headers.{header_with, IsHeader}}
use Rattle.mt_log.proofs.log_file.LogFile.begin.Goals as goal

pub returns-in-Ok-clause-ok : goal.returns-in-Ok-clause-ok
returns-in-Ok-clause-ok g c =
    let h = header_with c.args.worker c.args.logs c.args.generation c.args.start in
    let is : IsHeader h = c.requires in
    let log : LogFile g.row.D.Denot = record { disk = c.begin_generation.new.disk; end = 25; mark = c.args.start } in
    let begun : Begun g.D.Disk.is_honest g.D.Disk.state g.D.Disk.failures c.args.disk h log = record {
      gate = c.in-Ok.ensures.gate;
      mark = refl;
      has = λ honest. record { contents = begun_contents h is; rest = begun_rest h (g.D.Disk.state c.begin_generation.new.disk) is (c.in-Ok.ensures.begun honest); mark = refl };
      leaves = record { leaves = c.begin_generation.ensures.leaves; over = c.begin_generation.ensures.over };
      count = c.in-Ok.ensures.count;
      honest = c.begin_generation.ensures.honest;
    } in
    subst (λ l. Begun g.D.Disk.is_honest g.D.Disk.state g.D.Disk.failures c.args.disk h l) (sym c.at.ensures) begun

pub returns-in-Err-clause-err : goal.returns-in-Err-clause-err
returns-in-Err-clause-err g c =
    not_begun g.D.Disk.is_honest g.D.Disk.state g.D.Disk.failures c.args.disk c.begin_generation.new.disk (header_with c.args.worker c.args.logs c.args.generation c.args.start) c.in-Err.fault
    c.in-Err.ensures.gate (record { leaves = c.begin_generation.ensures.leaves; over = c.begin_generation.ensures.over }) c.in-Err.ensures.count c.begin_generation.ensures.honest
