-- the columns so far stand at the end
use Rattle.std.{proofs.Common.{◌≡◌, ◌∷◌, ◌++◌, length, take}, specs.List.flat_map}
use Rattle.mt_row_fields.specs.Format.{named_bytes}
use Rattle.mt_row_fields.proofs.changes.put_list.Given as goal

abbrev pub invariant-loop-named : goal.invariant-loop-named
invariant-loop-named l = l.out.items ≡ l.fn.out.items ++ (length l.columns ∷ flat_map named_bytes (take l.named-index l.columns))
