use Rattle.std.proofs.Common.{◌≡◌, ◌<◌, ℕ, length, refl, sym, ap, subst, ◌∙◌, arith}
use Rattle.mt_border.specs.Entries.{without}
use Rattle.mt_arena.{specs.{NodeFacts.IsUnstable, Layers.slot_at, Edits.cells_without}, proofs.Slots.lost_dropped}
use Rattle.mt_arena.specs.{NodeView.{node_at, place_at}, declared.tree.Tree.Tree, Forests.tree_at, Arena.ArenaView, Removals.MayDropLayer}
use Rattle.mt_arena.proofs.{Pairs.read, TopNodes.read_tree, Retiring.{borders_few, trees_few}}
use Rattle.mt_arena.proofs.DroppingLayer.{the_link, same_link, lr, lu, live_root, idle_not, apart, sound_dropped_layer, step_dropped_layer, content_dropped_layer, node_dropped_layer, root_dropped_layer, others_dropped_layer}
use Rattle.mt_arena.proofs.arena.Arena.drop_layer.Goals.{After-link_at-lower, After-index-2, After-index_mut}
use Rattle.mt_arena.proofs.arena.Arena.drop_layer.Goals as goal

-- once the link is read: the arena as it was, the tree to which the slot leads, and that it may be taken out
module _ (c : After-link_at-lower) where
  abbrev v : ArenaView
  v = record { nodes = c.self.inside.nodes.items; trees = c.self.inside.trees.items; retired = c.self.inside.retired.places }

  abbrev t : ℕ
  t = c.link_at-lower.result

  some : (u : ℕ) × MayDropLayer v c.args.node (place_at (node_at v.nodes c.args.node) c.args.slot) u c.args.operation
  some = rw (← c.self.view_is) at c.requires.may

  node_is : c.index.result.now ≡ node_at v.nodes c.args.node
  node_is = read v.nodes c.args.node c.index.result.now some.1.held.there c.index.ensures

  may : MayDropLayer v c.args.node (place_at (node_at v.nodes c.args.node) c.args.slot) t c.args.operation
  may = the_link v c.args.node _ some.0 t c.args.operation (rw node_is at c.link_at-lower.ensures) some.1

  tree_there : t < length v.trees
  tree_there = lu v _ c.args.node _ t c.args.step c.args.operation c.self.invariant may

  root_there : (tree_at v.trees t).root < length v.nodes
  root_there = lr v _ c.args.node _ t c.args.step c.args.operation c.self.invariant may

-- once its root is read
module _ (c : After-index-2) where
  abbrev before : After-link_at-lower
  before = (goal.at.After-index-2 c).After-link_at-lower

  tree_is : c.index-2.result.now ≡ tree_at (v before).trees (t before)
  tree_is = read_tree (v before).trees (t before) c.index-2.result.now (tree_there before) c.index-2.ensures

  root_is : c.index-2.result.now.root ≡ (tree_at (v before).trees (t before)).root
  root_is = ap (λ (w : Tree). w.root) tree_is

-- once the tree is to be dead
module _ (c : After-index_mut) where
  abbrev first : After-link_at-lower
  first = (goal.at.After-index_mut c).After-link_at-lower

  record_is : c.index_mut.result.now ≡ tree_at (v first).trees (t first)
  record_is = read_tree (v first).trees (t first) c.index_mut.result.now (tree_there first) c.index_mut.ensures.value

pub index-requires-2 : goal.index-requires-2
index-requires-2 c = let there = tree_there (goal.at.index-requires-2 c).After-link_at-lower in omega (arith, there)

pub drop_link-requires-clause-root_there : goal.drop_link-requires-clause-root_there
drop_link-requires-clause-root_there c =
    let at = goal.at.drop_link-requires-clause-root_there c in
    omega (arith, root_is at.After-index-2, root_there at.After-link_at-lower)

pub drop_link-requires-clause-differ : goal.drop_link-requires-clause-differ
drop_link-requires-clause-differ c =
    let at = goal.at.drop_link-requires-clause-differ c in
    let l = at.After-link_at-lower in
    (λ same. apart (v l) _ c.args.node _ (t l) c.args.step c.args.operation c.self.invariant (may l) (same ∙ root_is at.After-index-2))

pub index_mut-requires : goal.index_mut-requires
index_mut-requires c = let there = tree_there (goal.at.index_mut-requires c).After-link_at-lower in omega (arith, there)

pub retire_border-requires : goal.retire_border-requires
retire_border-requires c =
    let l = (goal.at.retire_border-requires c).After-link_at-lower in
    let live = live_root (v l) _ c.args.node _ (t l) c.args.step c.args.operation c.self.invariant (may l) in
    omega (arith, borders_few (v l).nodes (v l).trees (v l).retired (tree_at (v l).trees (t l)).root (root_there l) c.self.invariant.retired live, c.self.invariant.enough)

pub retire_tree-requires : goal.retire_tree-requires
retire_tree-requires c =
    let l = (goal.at.retire_tree-requires c).After-link_at-lower in
    let used = idle_not (v l) _ c.args.node _ (t l) c.args.step c.args.operation c.self.invariant (may l) in
    rw c.retire_border.ensures
    (omega (arith, trees_few (v l).nodes (v l).trees (v l).retired (t l) (tree_there l) c.self.invariant.retired used, c.self.invariant.trees_enough))

pub invariant_of-self : goal.invariant_of-self
invariant_of-self c =
    let at = goal.at.invariant_of-self c in
    let l = at.After-link_at-lower in
    rw (c.retire_tree.ensures, c.retire_border.ensures, c.drop_link.ensures.nodes, tree_is at.After-index-2, record_is at.After-index_mut)
    (sound_dropped_layer (v l) _ c.args.node _ (t l) c.args.step c.args.operation c.self.invariant (may l) (rw (← c.self.view_is) at c.requires.upto))

pub returns-clause-step : goal.returns-clause-step
returns-clause-step c =
    let at = goal.at.returns-clause-step c in
    let l = at.After-link_at-lower in
    let n = node_at (v l).nodes c.args.node in
    let stable : ¬ IsUnstable (slot_at n (place_at n c.args.slot)).held = subst (λ h. ¬ IsUnstable h) (sym (may l).link) (λ unstable. unstable) in
    let lost = lost_dropped n (without n.slots (slot_at n (place_at n c.args.slot))) (cells_without n.cells (place_at n c.args.slot)) c.args.slot c.drop_link.ensures.lost stable in
    rw (← c.self.view_is, c.drop_link.ensures.nodes, tree_is at.After-index-2, record_is at.After-index_mut)
    (let step = step_dropped_layer (v l) _ c.args.node _ (t l) c.args.step c.args.operation c.self.invariant (may l) c.drop_link.ensures.keeps lost in record { nodes = step.nodes; points = step.points; lost = step.lost })

pub returns-clause-contents : goal.returns-clause-contents
returns-clause-contents c =
    let at = goal.at.returns-clause-contents c in
    let l = at.After-link_at-lower in
    rw (← c.self.view_is, c.drop_link.ensures.nodes, tree_is at.After-index-2, record_is at.After-index_mut)
    (content_dropped_layer (v l) _ c.args.node _ (t l) c.args.step c.args.operation c.self.invariant (may l))

pub returns-clause-is : goal.returns-clause-is
returns-clause-is c u link =
    let at = goal.at.returns-clause-is c in
    let l = at.After-link_at-lower in
    let same : t l ≡ u = same_link (sym (rw (node_is l) at c.link_at-lower.ensures) ∙ (rw (← c.self.view_is) at link)) in
    rw (← c.self.view_is, ← same, c.drop_link.ensures.nodes, c.retire_tree.ensures, c.retire_border.ensures, tree_is at.After-index-2, record_is at.After-index_mut) refl

pub returns-clause-settled : goal.returns-clause-settled
returns-clause-settled c =
    let at = goal.at.returns-clause-settled c in
    let l = at.After-link_at-lower in
    rw (← c.self.view_is, c.drop_link.ensures.nodes, tree_is at.After-index-2) (node_dropped_layer (v l) _ c.args.node _ (t l) c.args.step c.args.operation c.self.invariant (may l))

pub returns-clause-root_settled : goal.returns-clause-root_settled
returns-clause-root_settled c u link =
    let at = goal.at.returns-clause-root_settled c in
    let l = at.After-link_at-lower in
    let same : t l ≡ u = same_link (sym (rw (node_is l) at c.link_at-lower.ensures) ∙ (rw (← c.self.view_is) at link)) in
    rw (← c.self.view_is, ← same, c.drop_link.ensures.nodes, tree_is at.After-index-2) (root_dropped_layer (v l) _ c.args.node _ (t l) c.args.step c.args.operation c.self.invariant (may l))

pub returns-clause-others_settled : goal.returns-clause-others_settled
returns-clause-others_settled c u k link away apart_root =
    let at = goal.at.returns-clause-others_settled c in
    let l = at.After-link_at-lower in
    let same : t l ≡ u = same_link (sym (rw (node_is l) at c.link_at-lower.ensures) ∙ (rw (← c.self.view_is) at link)) in
    rw (← c.self.view_is, c.drop_link.ensures.nodes, tree_is at.After-index-2)
    (others_dropped_layer (v l) _ c.args.node _ (t l) c.args.step c.args.operation c.self.invariant (may l) k away (λ is. apart_root (rw (← c.self.view_is) (is ∙ ap (λ t. (tree_at (v l).trees t).root) same))))
