use Rattle.std.proofs.Common.{◌≡◌, refl, ap, ◌∙◌}
use Rattle.mt_arena.specs.{NodeView.{NodeView, place_at}, Layers.slot_at, Forests.tree_at, Arena.ArenaView}
use Rattle.mt_arena.proofs.{Pairs.read, TopNodes.read_tree, GoingLinked.{lt, sound_live, step_live, content_live}}
use Rattle.mt_arena.proofs.arena.Arena.mark_layer.Goals as goal

pub invariant_of-self : goal.invariant_of-self
invariant_of-self c =
    let may = rw (← c.self.view_is) at c.requires.may.2 in
    let v : ArenaView = record { nodes = c.self.inside.nodes.items; trees = c.self.inside.trees.items; retired = c.self.inside.retired.places } in
    let now = read v.nodes c.args.node c.index_mut.result.now may.slot.held.there c.index_mut.ensures.value in
    let after = c.mark_layer-pair.ensures.after c.requires.may.1 c.args.tree (ap (λ (n : NodeView). (slot_at n (place_at n c.args.slot)).held) now ∙ may.slot.is) in
    let within = lt v _ c.args.node _ c.args.tree c.args.operation c.requires.may.0 c.requires.may.1 c.self.invariant may in
    let tree_is : c.index_mut-2.result.now ≡ tree_at v.trees c.args.tree = read_tree v.trees c.args.tree c.index_mut-2.result.now within c.index_mut-2.ensures.value in
    rw (after, now, tree_is) (sound_live v _ c.args.node _ c.args.tree c.args.operation c.requires.may.0 c.requires.may.1 c.self.invariant may)

pub returns-clause-is : goal.returns-clause-is
returns-clause-is c =
    let may = rw (← c.self.view_is) at c.requires.may.2 in
    let v : ArenaView = record { nodes = c.self.inside.nodes.items; trees = c.self.inside.trees.items; retired = c.self.inside.retired.places } in
    let now = read v.nodes c.args.node c.index_mut.result.now may.slot.held.there c.index_mut.ensures.value in
    let after = c.mark_layer-pair.ensures.after c.requires.may.1 c.args.tree (ap (λ (n : NodeView). (slot_at n (place_at n c.args.slot)).held) now ∙ may.slot.is) in
    let within = lt v _ c.args.node _ c.args.tree c.args.operation c.requires.may.0 c.requires.may.1 c.self.invariant may in
    let tree_is : c.index_mut-2.result.now ≡ tree_at v.trees c.args.tree = read_tree v.trees c.args.tree c.index_mut-2.result.now within c.index_mut-2.ensures.value in
    rw (← c.self.view_is, after, now, tree_is) refl

pub returns-clause-step : goal.returns-clause-step
returns-clause-step c =
    let may = rw (← c.self.view_is) at c.requires.may.2 in
    let v : ArenaView = record { nodes = c.self.inside.nodes.items; trees = c.self.inside.trees.items; retired = c.self.inside.retired.places } in
    let now = read v.nodes c.args.node c.index_mut.result.now may.slot.held.there c.index_mut.ensures.value in
    let after = c.mark_layer-pair.ensures.after c.requires.may.1 c.args.tree (ap (λ (n : NodeView). (slot_at n (place_at n c.args.slot)).held) now ∙ may.slot.is) in
    let within = lt v _ c.args.node _ c.args.tree c.args.operation c.requires.may.0 c.requires.may.1 c.self.invariant may in
    let tree_is : c.index_mut-2.result.now ≡ tree_at v.trees c.args.tree = read_tree v.trees c.args.tree c.index_mut-2.result.now within c.index_mut-2.ensures.value in
    let keeps = rw (after, now) at c.mark_layer-pair.ensures.keeps in
    rw (← c.self.view_is, after, now, tree_is) (step_live v _ c.args.node _ c.args.tree c.args.operation c.requires.may.0 c.requires.may.1 c.self.invariant may keeps)

pub returns-clause-contents : goal.returns-clause-contents
returns-clause-contents c =
    let may = rw (← c.self.view_is) at c.requires.may.2 in
    let v : ArenaView = record { nodes = c.self.inside.nodes.items; trees = c.self.inside.trees.items; retired = c.self.inside.retired.places } in
    let now = read v.nodes c.args.node c.index_mut.result.now may.slot.held.there c.index_mut.ensures.value in
    let after = c.mark_layer-pair.ensures.after c.requires.may.1 c.args.tree (ap (λ (n : NodeView). (slot_at n (place_at n c.args.slot)).held) now ∙ may.slot.is) in
    let within = lt v _ c.args.node _ c.args.tree c.args.operation c.requires.may.0 c.requires.may.1 c.self.invariant may in
    let tree_is : c.index_mut-2.result.now ≡ tree_at v.trees c.args.tree = read_tree v.trees c.args.tree c.index_mut-2.result.now within c.index_mut-2.ensures.value in
    rw (← c.self.view_is, after, now, tree_is) (content_live v _ c.args.node _ c.args.tree c.args.operation c.requires.may.0 c.requires.may.1 c.self.invariant may)
