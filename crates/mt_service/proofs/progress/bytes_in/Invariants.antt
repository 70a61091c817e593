-- There are as many files.
use Rattle.std.proofs.Common.{◌≡◌, length}
use Rattle.mt_service.proofs.progress.bytes_in.Given as goal

abbrev pub invariant-loop-place : goal.invariant-loop-place
invariant-loop-place g l = length l.files ≡ length l.initial.files
