-- The next change is owed no more.
use Rattle.std.proofs.Common.{List, ap, arith}
use Rattle.mt_disk.{specs.{FileEdits.{FileEdit, edits_of}, MemFiles.mem_file_disk}, proofs.EditLaws.tail_owed}
use Rattle.mt_disk.proofs.mem_file.MemFile.again.Goals as goal

pub returns : goal.returns
returns c = λ e rest is.
    let items = c.args.self.now.unsynced.items in
    ap (λ (l : List FileEdit). record { disk = mem_file_disk c.args.self.now; unsynced = edits_of items; owed = l }) (tail_owed items c.args.self.now.made e rest (omega (arith, c.requires)) is)
