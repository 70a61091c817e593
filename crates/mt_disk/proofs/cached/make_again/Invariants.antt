-- What is owed of a file while its changes are made again.
use Rattle.std.proofs.Common.{◌≡◌, IsTrue, drop}
use Rattle.mt_disk.{specs.FileEdits.edits_of, proofs.EditLaws.owing}
use Rattle.mt_disk.proofs.cached.make_again.Given as goal

-- those from here on are owed
abbrev pub invariant-loop-edit : goal.invariant-loop-edit
invariant-loop-edit g l =
    (g.F.SystemFile.is_honest l.file ≡ g.F.SystemFile.is_honest l.fn.file)
    × (IsTrue (g.F.SystemFile.is_honest l.fn.file) → (g.F.SystemFile.state l.fn.file).unsynced ≡ edits_of l.edits → (g.F.SystemFile.state l.fn.file).owed ≡ edits_of l.edits
    → g.F.SystemFile.state l.file ≡ owing (g.F.SystemFile.state l.fn.file) (edits_of (drop l.edit-index l.edits)))
