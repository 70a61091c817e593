-- those so far are kept after those before
use Rattle.std.proofs.Common.{◌≡◌, ◌++◌, map}
use Rattle.mt_checkpoint.proofs.kept.keep.Given as goal

abbrev pub invariant-loop-pair : goal.invariant-loop-pair
invariant-loop-pair g l = map g.T.KeptPair.as_pair l.kept.items ≡ map g.T.KeptPair.as_pair l.fn.kept.items ++ l.yielded
