-- The pairs so far were copied.
use Rattle.std.proofs.Common.{◌≡◌, take}
use Rattle.mt_lives.proofs.crashes.copied.Given as goal

abbrev pub invariant-loop-pair : goal.invariant-loop-pair
invariant-loop-pair l = l.copy.items ≡ take l.pair-index l.pairs
