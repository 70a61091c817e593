-- What is kept once the pair has the number of its tree, that the operation holds no other node, and that no pair gets another stamp.
use Rattle.std.proofs.Common.{rules, Some, None}
use Rattle.mt_border.specs.Held.{Unstable}
use Rattle.mt_arena.specs.{Accesses.at, Layering.with_held}
use Rattle.mt_held.proofs.Holders.{only_changed}
use Rattle.mt_descent.specs.KeptWalks.{walk_place}
use Rattle.mt_layer.proofs.{Linking.{numbered, same_tree}, Stamps.held_keeps}
use Rattle.mt_layer.proofs.phases.link.link.Goals as goal

pub returns : goal.returns
returns c = record {
  is = search rules;
  walk = search rules;
  kept = λ key h.
      rw (c.link.ensures.is h.pair h.makes.layer.slot.is, same_tree c.tree_of.result h.tree c.args.walk.now.taken c.tree_of.ensures h.makes.taken) (numbered c.args.arena.now c.args.operation key c.args.walk.now c.facts.ensures.arena h);
  on = record {
    keeps = search rules;
    stamps = let h = c.requires.kept.1 in
        rw (c.link.ensures.is h.pair h.makes.layer.slot.is) (held_keeps c.args.arena.now c.args.operation c.requires.kept.0 c.args.walk.now h.tree (Unstable h.pair None) (Unstable h.pair (Some c.tree_of.result)) h.pair c.facts.ensures.arena (λ p is. is) h.makes);
    holds = λ only.
        let v = c.args.arena.now in
        let w = c.args.walk.now in
        let h = c.requires.kept.1 in
        rw (c.link.ensures.is h.pair h.makes.layer.slot.is) (only_changed v c.args.operation w.place.node (with_held (at v w.place.node) (walk_place v w) (Unstable h.pair (Some c.tree_of.result))) only);
  };
}
