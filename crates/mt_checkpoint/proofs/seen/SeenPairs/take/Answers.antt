-- Pairs are taken if the first is after the last one before, and each after the one before it.
use Rattle.std.proofs.{Common.{◌≡◌, ◌-◌, Some, length, sym, ◌∙◌, ap, arith}, lemmas.Bool.true≢false}
use Rattle.std.specs.{Option.option_map, List.slice_get}
use Rattle.mt_rows.specs.TenantPairs.{owner_of}
use Rattle.mt_checkpoint.proofs.Rising.{some_pairs, get_at, follows_seen, rises_so, refused, taken}
use Rattle.mt_checkpoint.proofs.seen.SeenPairs.take.Goals.{then-not-rises_to-via-then-not-rises_to, then-not-rises_to-via-else-not-rises_to+then-not-rise}
use Rattle.mt_checkpoint.proofs.seen.SeenPairs.take.Goals as goal

pub returns-then-not-rises_to : goal.returns-then-not-rises_to
returns-then-not-rises_to c before seen =
    let pairs = c.args.pairs.now in
    let some = some_pairs (length pairs) c.if-is_empty.ensures in
    let at : slice_get pairs 0 ≡ Some c.index-pairs-0.result = get_at pairs 0 c.index-pairs-0.result (omega (arith, some.1)) c.index-pairs-0.is in
    refused before pairs c.args.self.now (λ on. elim c.then-not-rises_to.branch [
      | then-not-rises_to-via-then-not-rises_to w ↦ true≢false (sym (c.rises_to.ensures.1 (follows_seen before pairs c.args.self.now c.index-pairs-0.result seen at on)) ∙ w.if-not-rises_to.true)
      | then-not-rises_to-via-else-not-rises_to+then-not-rise w ↦ true≢false (sym (w.rise.ensures.1 on.rising) ∙ w.if-not-rise.true)
    ])

pub returns : goal.returns
returns c before seen =
    let pairs = c.args.pairs.now in
    let some = some_pairs (length pairs) c.if-is_empty.ensures in
    let first = c.index-pairs-0.result in
    let last = c.index-pairs-pairs.result in
    let at : slice_get pairs 0 ≡ Some first = get_at pairs 0 first (omega (arith, some.1)) c.index-pairs-0.is in
    let last_at : slice_get pairs (length pairs - 1) ≡ Some last = get_at pairs (length pairs - 1) last (omega (arith, some.1)) c.index-pairs-pairs.is in
    taken before pairs c.args.self.now _ seen (rises_so before pairs c.args.self.now first seen at (c.rise.ensures.0 c.if-not-rise.false) (c.rises_to.ensures.0 c.if-not-rises_to.false)) (record {
      some = some;
      each = c.requires;
      last = ap (λ k. Some (last.tenant, k)) c.in_ok-copy_from.ensures ∙ sym (ap (option_map owner_of) last_at);
      more = c.greatest_stamp-self.ensures.covers.0;
      covers = c.greatest_stamp-self.ensures.covers.1;
      least = c.greatest_stamp-self.ensures.least;
    })
