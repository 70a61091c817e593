use Rattle.std.{proofs.Common.take, specs.List.All}
use Rattle.mt_rows.specs.TenantPairs.{IsTenantPair}
use Rattle.mt_core_tests.proofs.tests.restored.are_within.Given as goal

-- each pair so far is within the limits
abbrev pub invariant-loop-pair : goal.invariant-loop-pair
invariant-loop-pair l = All IsTenantPair (take l.pair-index l.pairs)
