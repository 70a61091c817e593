-- A batch of the log that a reader is at, or of the next one.
use Rattle.std.proofs.Common.{◌∙◌, ap, subst, true}
use Rattle.std.specs.Prelude.{Ok, is_ok}
use Rattle.mt_log_files.specs.Slots.{file_of}
use Rattle.mt_chain_files.specs.Rereads.{kind_of, ChainIsAhead}
use Rattle.mt_chain_files.proofs.Giving.{Read, IsGivenOf, reader_goes_on, reader_gives, file_was_read, files_after}
use Rattle.mt_chain_files.proofs.chain_reader.ChainReader.read.Goals as goal

pub returns-in-Some-clause-ahead : goal.returns-in-Some-clause-ahead
returns-in-Some-clause-ahead g c =
    let is_honest = g.D.Disk.is_honest in
    let state = g.D.Disk.state in
    let failures = g.D.Disk.failures in
    let was = c.args.self.now in
    let new = c.step.new.files in
    reader_gives is_honest state failures c.args.files.now new was c.step.new.self c.in-Some.given.batch c.step.ensures.place
    (subst (λ (r : Read). IsGivenOf is_honest state failures r (kind_of was.generation) (file_of was.generation c.args.files.now) was.reader (file_of was.generation new) c.step.new.self.reader)
    (c.in_ok-given.was ∙ ap Ok c.in-Some.is) c.step.ensures.ahead)
    c.step.ensures.files

pub returns-in-None-clause-ahead : goal.returns-in-None-clause-ahead
returns-in-None-clause-ahead g c =
    reader_goes_on g.D.Disk.is_honest g.D.Disk.state g.D.Disk.failures c.step.result c.go_on.result c.args.files.now c.step.new.files c.args.self.now c.step.new.self
    (λ rest. ChainIsAhead g.D.Disk.is_honest g.D.Disk.state rest c.go_on.new.files c.go_on.new.self) c.step.ensures.place
    (c.in_ok-given.was ∙ ap Ok c.in-None.is) c.step.ensures.ahead c.step.ensures.files c.go_on.ensures.ahead

pub returns-in-None-clause-read : goal.returns-in-None-clause-read
returns-in-None-clause-read g c =
    let is_honest = g.D.Disk.is_honest in
    let state = g.D.Disk.state in
    let failures = g.D.Disk.failures in
    let old = c.args.files.now in
    let mid = c.step.new.files in
    files_after is_honest state failures true (is_ok c.go_on.result) old mid c.go_on.new.files
    (file_was_read is_honest state failures c.step.result c.in_ok-given.field-0 c.args.self.now.generation old mid c.in_ok-given.was c.step.ensures.read c.step.ensures.files)
    c.go_on.ensures.read
