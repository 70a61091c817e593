-- What is kept once the pair is unstable, that the operation holds no other node, and that no pair gets another stamp.
use Rattle.std.{proofs.Common.rules, specs.Prelude.None}
use Rattle.mt_border.specs.Held.{Stable, Unstable}
use Rattle.mt_arena.specs.{Accesses.at, Layering.with_held}
use Rattle.mt_held.proofs.Holders.{only_changed}
use Rattle.mt_descent.specs.KeptWalks.{walk_place}
use Rattle.mt_layer.proofs.{Linking.unstable, Stamps.held_keeps}
use Rattle.mt_layer.proofs.phases.mark_unstable.mark_unstable.Goals as goal

pub returns : goal.returns
returns c = record {
  is = search rules;
  walk = search rules;
  kept =
      λ key h. rw (c.mark_unstable.ensures.is h.pair h.makes.layer.slot.is) (unstable c.args.arena.now c.args.operation key c.args.walk.now c.facts.ensures.arena h);
  on = record {
    keeps = search rules;
    stamps = let h = c.requires.kept.1 in
        rw (c.mark_unstable.ensures.is h.pair h.makes.layer.slot.is) (held_keeps c.args.arena.now c.args.operation c.requires.kept.0 c.args.walk.now h.tree (Stable h.pair) (Unstable h.pair None) h.pair c.facts.ensures.arena (λ p is. is) h.makes);
    holds = λ only.
        let v = c.args.arena.now in
        let w = c.args.walk.now in
        let h = c.requires.kept.1 in
        rw (c.mark_unstable.ensures.is h.pair h.makes.layer.slot.is) (only_changed v c.args.operation w.place.node (with_held (at v w.place.node) (walk_place v w) (Unstable h.pair None)) only);
  };
}
