use Rattle.std.proofs.Common.{◌≡◌, ◌++◌, length, take}
use Rattle.std.specs.List.{flat_map}
use Rattle.mt_resp.specs.{Numbers.number_line, Replies.column_text}
use Rattle.mt_resp.proofs.writing.write_picked.Given as goal

abbrev pub invariant-loop-index : goal.invariant-loop-index
invariant-loop-index l = record {
  same : l.out.items ≡ l.fn.out.items ++ (number_line 42 (length l.indexes) ++ flat_map (column_text l.columns) (take l.index-index l.indexes));
  front : take (length l.fn.out.items) l.out.items ≡ l.fn.out.items;
}
