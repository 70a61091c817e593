use Rattle.mt_scan.proofs.Collecting.{collects_more}
use Rattle.mt_scan.proofs.collect.push_seen.Goals as goal

pub loop-place-preserved : goal.loop-place-preserved
loop-place-preserved c =
    collects_more c.args.columns.now c.args.seen.now c.args.collected.now.items c.loop-place.collected.items c.push_shown.new.collected.items
    c.loop-place.place _ _ c.pair.ensures c.loop-place.invariant
    c.in_ok-push_shown.ensures
