-- A log at rest is given up by its text.
use Rattle.std.proofs.Common.{ap, ◌∙◌, sym}
use Rattle.mt_log.{specs.{Numbered.{text_of}}, proofs.NumberedLaws.{rest_left, text_some}}
use Rattle.mt_log.proofs.log_file.LogFile.give_up.Goals as goal

pub returns-in-Err-clause-err : goal.returns-in-Err-clause-err
returns-in-Err-clause-err g c =
    let same = c.into_disk-disk.ensures in
    record {
      leaves = λ honest d log. rw (sym same) (c.give_up.ensures.leaves (rw same honest) (text_of d) _ (text_some d) (rw same (rest_left d c.args.self.end (g.D.Disk.state c.args.self.disk) log.rest)));
      count = rw (sym same) c.in-Err.ensures.count;
      honest = c.give_up.ensures.honest ∙ ap g.D.Disk.is_honest same;
    }
