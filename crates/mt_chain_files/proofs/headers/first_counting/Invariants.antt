-- The least of all is that of those that are left, from the least so far on.
use Rattle.std.proofs.Common.{◌≡◌, drop}
use Rattle.mt_chain_files.specs.Headers.{least_latest, first_counting}
use Rattle.mt_chain_files.proofs.headers.first_counting.Given as goal

abbrev pub invariant-loop-one : goal.invariant-loop-one
invariant-loop-one l = least_latest (drop l.one-index l.told) l.least ≡ first_counting l.told
