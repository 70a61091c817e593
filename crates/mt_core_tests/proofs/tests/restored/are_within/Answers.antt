use Rattle.std.{proofs.{Common.{rules, subst}, lemmas.List.take_all, lemmas.List.Elements.All-more}, specs.List.All}
use Rattle.mt_rows.specs.TenantPairs.{IsTenantPair}
use Rattle.mt_core_tests.proofs.tests.restored.are_within.Goals as goal

pub loop-pair-preserved : goal.loop-pair-preserved
loop-pair-preserved c =
    All-more IsTenantPair c.args.pairs.now c.loop-pair.pair-index c.pair-item.result c.loop-pair-test.true c.loop-pair.invariant
    (subst IsTenantPair c.pair-item.is (c.is_within.ensures (search rules)))

pub returns : goal.returns
returns c = λ yes. subst (All IsTenantPair) (take_all c.loop-pair.pair-index c.args.pairs.now c.loop-pair-test.false) c.loop-pair.invariant
