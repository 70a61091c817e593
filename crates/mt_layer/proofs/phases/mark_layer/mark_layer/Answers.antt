-- What is kept once the slot is a link, and that no pair gets another stamp.
use Rattle.std.proofs.Common.{rules}
use Rattle.mt_layer.proofs.{Linking.{linked, same_tree}, Stamps.link_keeps}
use Rattle.mt_layer.proofs.phases.mark_layer.mark_layer.Goals as goal

pub returns : goal.returns
returns c = record {
  is = search rules;
  walk = search rules;
  kept = λ key h.
      rw (c.mark_layer-pair.ensures.is, same_tree c.tree_of.result h.tree c.args.walk.now.taken c.tree_of.ensures h.makes.taken) (linked c.args.arena.now c.args.operation key c.args.walk.now c.facts.ensures.arena h);
  on = record {
    keeps = search rules;
    stamps = let h = c.requires.kept.1 in
        rw (c.mark_layer-pair.ensures.is, same_tree c.tree_of.result h.tree c.args.walk.now.taken c.tree_of.ensures h.makes.taken) (link_keeps c.args.arena.now c.args.operation c.requires.kept.0 c.args.walk.now h.tree h.pair c.facts.ensures.arena h.makes);
    holds = search rules;
  };
}
