use Rattle.std.proofs.Common.{◌≡◌, ◌+◌, ◌*◌, ◌≤◌, length, drop}
use Rattle.mt_resp.specs.Strings.{value_of}
use Rattle.mt_resp.proofs.strings.value_len.Given as goal

abbrev pub invariant-loop-column : goal.invariant-loop-column
invariant-loop-column l = record {
  same : l.len + length (value_of (drop l.column-index l.columns)) ≡ length (value_of l.columns);
  small : l.len ≤ l.column-index * 1024;
}
