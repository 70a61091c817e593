-- Entries before the middle have no later step than it, and those behind it no earlier one.
use Rattle.std.proofs.{Common.{◌+◌, ◌-◌, ◌/◌, ◌<◌, length, refl, arith}, lemmas.Option.slice_get_read}
use Rattle.mt_tape.proofs.SearchLaws.{in_turn}
use Rattle.mt_tape.proofs.tape.count_upto.Goals as goal

pub loop-low-preserved-then-index-step : goal.loop-low-preserved-then-index-step
loop-low-preserved-then-index-step c =
    let l = c.loop-low in
    let items = c.args.entries.now.items in
    let m = l.low + (l.high - l.low) / 2 in
    let d = c.index.result.now in
    let some = c.loop-low-test.true in
    let within = l.invariant.within in
    let under : m < l.high = omega (arith, some) in
    let at_m = slice_get_read items (length items) m d refl (omega (arith, under, within)) c.index.ensures in
    let upto = c.if-index-step.true in
    record {
      order = omega (arith, under);
      within = within;
      before = λ k e lt at. omega (arith, upto, in_turn c.args.floor items k m e d c.requires (omega (arith, lt)) at at_m);
      behind = l.invariant.behind;
    }

pub loop-low-preserved : goal.loop-low-preserved
loop-low-preserved c =
    let l = c.loop-low in
    let items = c.args.entries.now.items in
    let m = l.low + (l.high - l.low) / 2 in
    let d = c.index.result.now in
    let some = c.loop-low-test.true in
    let within = l.invariant.within in
    let under : m < l.high = omega (arith, some) in
    let at_m = slice_get_read items (length items) m d refl (omega (arith, under, within)) c.index.ensures in
    let late = c.if-index-step.false in
    record {
      order = omega (arith, some);
      within = omega (arith, under, within);
      before = l.invariant.before;
      behind = λ k e le at. omega (arith, late, in_turn c.args.floor items m k d e c.requires le at_m at);
    }
