-- What is kept once the tree is made, that the operation holds no other node, and that no pair gets another stamp, also where there is no memory.
use Rattle.std.proofs.Common.{rules}
use Rattle.mt_arena.specs.Layering.{prefix_below}
use Rattle.mt_descent.specs.KeptWalks.{walk_place}
use Rattle.mt_layer.{specs.NewLayers.entry_below, proofs.{Making.{made, only_made}, Stamps.layer_keeps}}
use Rattle.mt_layer.proofs.phases.make_layer.make_layer.Goals as goal

pub returns-in-Ok-clause-makes : goal.returns-in-Ok-clause-makes
returns-in-Ok-clause-makes c = record {
  is = search rules;
  walk = search rules;
  kept = let h = c.requires.kept in
      rw (c.in-Ok.ensures.is h.pair h.stable, c.in-Ok.ensures.number) (made c.args.arena.now c.args.operation c.args.key.now c.args.walk.now c.facts.ensures.arena h c.args.least c.facts.ensures.retired c.requires.forgotten);
  on = record {
    same = search rules;
    steps = search rules;
    contents = search rules;
    stamps = let v = c.args.arena.now in
        let w = c.args.walk.now in
        let h = c.requires.kept in
        rw (c.in-Ok.ensures.is h.pair h.stable) (layer_keeps v (prefix_below v w.place.node (walk_place v w)) (entry_below h.pair) c.args.least c.args.operation c.facts.ensures.arena c.facts.ensures.retired c.requires.forgotten);
    holds = λ only.
        let v = c.args.arena.now in
        let w = c.args.walk.now in
        let h = c.requires.kept in
        rw (c.in-Ok.ensures.is h.pair h.stable) (only_made v c.args.operation c.args.least w.place.node (prefix_below v w.place.node (walk_place v w)) (entry_below h.pair) c.facts.ensures.arena.nodes c.facts.ensures.retired c.requires.forgotten only);
  };
}

pub returns-in-Err-clause-unlocks : goal.returns-in-Err-clause-unlocks
returns-in-Err-clause-unlocks c = record { is = search rules; walk = search rules; keeps = search rules }
