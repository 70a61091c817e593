-- The pairs so far are listed.
use Rattle.std.proofs.Common.{◌≡◌, ◌++◌}
use Rattle.mt_recover.proofs.merging.with_rest.Given as goal

abbrev pub invariant-loop-pair : goal.invariant-loop-pair
invariant-loop-pair l = l.listed.items ≡ l.fn.listed.items ++ l.yielded
