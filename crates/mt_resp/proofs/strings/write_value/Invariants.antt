use Rattle.std.proofs.Common.{◌≡◌, ◌++◌, length, take, drop}
use Rattle.mt_resp.specs.Strings.{value_of}
use Rattle.mt_resp.proofs.strings.write_value.Given as goal

abbrev pub invariant-loop-column : goal.invariant-loop-column
invariant-loop-column l = record {
  same : l.out.items ++ value_of (drop l.column-index l.columns) ≡ l.fn.out.items ++ value_of l.columns;
  front : take (length l.fn.out.items) l.out.items ≡ l.fn.out.items;
}
