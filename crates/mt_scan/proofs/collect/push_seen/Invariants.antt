-- So many of the pairs that were seen are collected.
use Rattle.std.proofs.Common.{◌≡◌, ◌++◌, take}
use Rattle.mt_walks.specs.Walked.{shown_all}
use Rattle.mt_scan.proofs.collect.push_seen.Given as goal

abbrev pub invariant-loop-place : goal.invariant-loop-place
invariant-loop-place l = l.collected.items ≡ l.initial.collected.items ++ shown_all l.columns (take l.place l.seen)
