use Rattle.std.proofs.Common.{◌≡◌, ◌++◌, length, take}
use Rattle.std.specs.List.{filter, flat_map}
use Rattle.mt_resp.specs.{Grammar.bulk, Lists.is_matched}
use Rattle.mt_resp.proofs.lists.write_keys.Given as goal

abbrev pub invariant-loop-pair : goal.invariant-loop-pair
invariant-loop-pair l = record {
  same : l.out.items ≡ l.fn.out.items ++ flat_map (λ pair. bulk pair.0) (filter (is_matched l.pattern) (take l.pair-index l.pairs));
  front : take (length l.fn.out.items) l.out.items ≡ l.fn.out.items;
}
