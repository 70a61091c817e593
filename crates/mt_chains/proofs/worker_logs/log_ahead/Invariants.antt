-- The first such log of all files is that of those that are left.
use Rattle.std.proofs.Common.{◌≡◌, ◌+◌, drop}
use Rattle.mt_chains.specs.Files.{numbered_log}
use Rattle.mt_chains.proofs.worker_logs.log_ahead.Given as goal

abbrev pub invariant-loop-file : goal.invariant-loop-file
invariant-loop-file l = numbered_log (l.generation + l.by) (drop l.file-index l.files) ≡ numbered_log (l.generation + l.by) l.files
