-- the columns so far and those of what is left are all
use Rattle.std.proofs.Common.{◌≡◌, ◌+◌, ◌*◌, ◌++◌, length}
use Rattle.mt_rows.specs.Changes.{indexed}
use Rattle.mt_resp.specs.Strings.{columns_of}
use Rattle.mt_resp.proofs.strings.columns_of.Given as goal

abbrev pub invariant-loop-rest : goal.invariant-loop-rest
invariant-loop-rest l = record {
  same : l.columns.items ++ indexed l.index (columns_of l.rest) ≡ indexed 0 (columns_of l.value);
  sizes : l.index * 1024 + length l.rest ≡ length l.value;
}

abbrev pub decreases-loop-rest : goal.decreases-loop-rest
decreases-loop-rest l = length l.rest
