-- A file with another log is the first of itself alone.
use Rattle.std.proofs.Common.{[], rules, refl}
use Rattle.mt_store_files.proofs.labels.compare_file.Goals as goal

pub returns-in-Log : goal.returns-in-Log
returns-in-Log g c = record {
  passed = [];
  rest = [];
  between = g.S.FolderSystem.calls c.args.system.now;
  parts = refl;
  others = refl;
  found = c.in-Log.ensures;
  expected = (c.requires, refl);
  differs = λ same. search (rules, same, c.if-ne.true, c.ne.ensures);
}
