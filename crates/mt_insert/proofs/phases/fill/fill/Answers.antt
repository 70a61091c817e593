-- That the holder may fill the free slot, and what it keeps then.
use Rattle.std.proofs.Common.{refl}
use Rattle.mt_insert.proofs.Filling.{open_to_fill, kept_filled}
use Rattle.mt_insert.proofs.phases.fill.fill.Goals as goal

pub fill-requires-clause-mine : goal.fill-requires-clause-mine
fill-requires-clause-mine c =
    let kept = c.requires.kept in
    open_to_fill c.args.arena.now c.args.operation kept.0 c.args.prepared.now c.args.walk.now c.facts.ensures.arena kept.1

pub returns : goal.returns
returns c = λ task kept. record {
  is = rw (c.fill.ensures.is, c.stable.ensures, c.take_pair-pair.ensures.pair) refl;
  rest_is = c.take_pair-pair.ensures.left;
  walk = refl;
  keeps = record { same = record { aim = refl; first = refl }; guarantee = c.fill.ensures.step; contents = c.fill.ensures.contents };
  kept = rw (c.fill.ensures.is, c.stable.ensures, c.take_pair-pair.ensures.pair, c.take_pair-pair.ensures.left)
      (kept_filled c.args.arena.now c.args.operation task c.args.prepared.now c.args.walk.now c.facts.ensures.arena kept
      (rw (c.fill.ensures.is, c.stable.ensures, c.take_pair-pair.ensures.pair) at c.fill.ensures.step) (rw (c.stable.ensures, c.take_pair-pair.ensures.pair) at c.fill.ensures.there));
}
