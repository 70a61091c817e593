-- The last one of all files is that of those that are left.
use Rattle.std.proofs.Common.{◌≡◌, map, drop}
use Rattle.mt_chains.specs.{Files.standing_of, Testing.later_among}
use Rattle.mt_chains.proofs.last.later_among.Given as goal

abbrev pub invariant-loop-file : goal.invariant-loop-file
invariant-loop-file l = later_among (drop l.file-index l.files) (map standing_of l.logs) l.last ≡ later_among l.files (map standing_of l.logs) l.initial.last
