-- The logs so far, and those on the files that are left.
use Rattle.std.proofs.Common.{◌≡◌, ◌+◌, length}
use Rattle.mt_store_logs.proofs.Closed.{SoFar}
use Rattle.mt_store_logs.proofs.opening.closed_logs.Given as goal

abbrev pub invariant-loop-one : goal.invariant-loop-one
invariant-loop-one g l = record {
  so_far : SoFar (length l.fn.files.items) l.fn.files.items l.logs.items l.one-iterator.rest.items;
  count : length l.logs.items + length l.one-iterator.rest.items ≡ length l.fn.files.items;
}
