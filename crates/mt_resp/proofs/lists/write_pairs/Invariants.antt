use Rattle.std.proofs.Common.{◌≡◌, ◌++◌, length, take}
use Rattle.std.specs.List.{filter, flat_map}
use Rattle.mt_resp.specs.Lists.{is_begun, pair_text}
use Rattle.mt_resp.proofs.lists.write_pairs.Given as goal

abbrev pub invariant-loop-pair : goal.invariant-loop-pair
invariant-loop-pair l = record {
  same : l.out.items ≡ l.fn.out.items ++ flat_map (pair_text l.stamps) (filter (is_begun l.prefix) (take l.pair-index l.pairs));
  front : take (length l.fn.out.items) l.out.items ≡ l.fn.out.items;
}
