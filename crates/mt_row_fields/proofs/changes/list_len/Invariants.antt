-- the columns so far have so many bytes
use Rattle.std.{proofs.Common.{◌≡◌, ◌+◌, ◌*◌, ◌≤◌, length, take}, specs.List.flat_map}
use Rattle.mt_row_fields.specs.Format.{named_bytes}
use Rattle.mt_row_fields.proofs.changes.list_len.Given as goal

abbrev pub invariant-loop-named : goal.invariant-loop-named
invariant-loop-named l = record {
  exact : l.len ≡ 1 + length (flat_map named_bytes (take l.named-index l.columns));
  few : l.len ≤ 1 + 1027 * l.named-index;
}
