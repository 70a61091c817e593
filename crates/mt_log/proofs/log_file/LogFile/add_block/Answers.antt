-- What `add` says of bytes, said of a log's contents.
use Rattle.std.proofs.Common.{◌+◌, length, sym, ◌∙◌, subst}
use Rattle.mt_log.specs.{declared.log_file.LogFile.LogFile, Format.body, Contents.log_bytes, Fronts.IsAtRest, Logs.{Appended, FailedIn}}
use Rattle.mt_log.proofs.{FrontLaws.{contents_more, more_bytes, end_more}, ReadLaws.on_err}
use Rattle.mt_log.proofs.log_file.LogFile.add_block.Goals as goal

pub returns-in_err-add-clause-err : goal.returns-in_err-add-clause-err
returns-in_err-add-clause-err g c = λ b is rises turn.
    let failed : FailedIn g.D.Disk.is_honest g.D.Disk.state g.D.Disk.failures c.args.self.now b c.add.new.disk = record {
      turn = turn;
      rises = rises;
      leaves = λ honest d log. c.add.ensures.leaves honest (log_bytes d) (body b) is log.rest;
      count = c.in_err-add.ensures.count;
      honest = c.add.ensures.honest;
    } in
    on_err _ failed

pub returns-clause-ok : goal.returns-clause-ok
returns-clause-ok g c = λ b is batch rises turn to.
    let new : LogFile g.row.D.Denot = record { disk = c.add.new.disk; end = c.args.self.now.end + length c.args.block.now; mark = c.args.to } in
    let appended : Appended g.D.Disk.is_honest g.D.Disk.state g.D.Disk.failures c.args.self.now b new = record {
      turn = turn;
      rises = rises;
      mark = sym to;
      has = λ honest d log. record {
        contents = contents_more d b log.contents (batch d.version);
        rest =
            subst (λ l. IsAtRest l (c.args.self.now.end + length c.args.block.now) (g.D.Disk.state c.add.new.disk)) (sym (more_bytes d b)) (c.in_ok-add.ensures.added honest (log_bytes d) (body b) is log.rest);
        mark = sym to ∙ sym (end_more d.start d.batches b);
      };
      leaves = λ honest d log. c.add.ensures.leaves honest (log_bytes d) (body b) is log.rest;
      count = c.in_ok-add.ensures.count;
      honest = c.add.ensures.honest;
    } in
    appended
