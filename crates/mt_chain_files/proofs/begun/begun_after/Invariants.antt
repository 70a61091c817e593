-- What was told so far, and what is told of those that are left.
use Rattle.std.proofs.Common.{◌≡◌, ◌++◌, drop}
use Rattle.mt_chain_files.specs.Chosen.{begun_in}
use Rattle.mt_chain_files.proofs.begun.begun_after.Given as goal

abbrev pub invariant-loop-worker : goal.invariant-loop-worker
invariant-loop-worker l = l.begun.items ++ begun_in l.generation (drop l.worker-index l.logs) ≡ begun_in l.generation l.logs
