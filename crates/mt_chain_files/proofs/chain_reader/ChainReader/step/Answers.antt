-- The log of a generation was read in its place.
use Rattle.std.proofs.Common.{◌∙◌, ap, sym}
use Rattle.mt_log_files.specs.Slots.{file_of}
use Rattle.mt_chain_files.specs.Rereads.{kind_of}
use Rattle.mt_chain_files.proofs.Giving.{same_given, file_is}
use Rattle.mt_chain_files.proofs.chain_reader.ChainReader.step.Goals as goal

pub returns-clause-ahead : goal.returns-clause-ahead
returns-clause-ahead g c =
    let n = c.args.self.now.generation in
    let slot = c.read_slot-given.new.slot in
    same_given g.D.Disk.is_honest g.D.Disk.state g.D.Disk.failures c.read_slot-given.result (kind_of n) c.kind_of.result (file_of n c.args.files.now) c.replace-slot.result
    (file_of n c.replace-away.new.self) slot c.args.self.now.reader c.read_slot-given.new.reader c.kind_of.ensures c.replace-slot.ensures.was
    (sym (ap (file_of n) c.replace-away.ensures.is ∙ file_is n slot c.replace-slot.new.self)) c.read_slot-given.ensures.ahead
