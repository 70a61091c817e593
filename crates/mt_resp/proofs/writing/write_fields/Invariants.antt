use Rattle.std.proofs.Common.{◌≡◌, ◌+◌, ◌++◌, length, take}
use Rattle.mt_resp.specs.{Numbers.number_line, Replies.fields_from}
use Rattle.mt_resp.proofs.writing.write_fields.Given as goal

abbrev pub invariant-loop-index : goal.invariant-loop-index
invariant-loop-index l = l.out.items ≡ l.fn.out.items ++ (number_line 42 (length l.columns + length l.columns) ++ fields_from 0 (take l.index l.columns))
