use Rattle.mt_resp.specs.Making.{named_from}
use Rattle.mt_resp.proofs.Named.{next_named, last_named}
use Rattle.mt_resp.proofs.making.named_in.Goals as goal

pub loop-index-preserved : goal.loop-index-preserved
loop-index-preserved c =
    next_named c.loop-index.columns.items c.push_value.new.columns.items c.loop-index.index c.args.pairs.now (named_from 16 0 c.args.pairs.now) c.loop-index-test.true c.in_ok-push_value.ensures c.loop-index.invariant

pub returns : goal.returns
returns c = last_named c.loop-index.columns.items c.loop-index.index c.args.pairs.now (named_from 16 0 c.args.pairs.now) c.loop-index-test.false c.loop-index.invariant
