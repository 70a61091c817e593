use Rattle.std.{proofs.{Common.{Bor, ℕ, ◌++◌, map, take, ap, sym, subst, ◌∙◌}, lemmas.List.take_all, lemmas.List.Folds.flat_map-map}, specs.List.flat_map}
use Rattle.mt_arena.specs.declared.tree.Tree.{Tree}
use Rattle.mt_core.{specs.Shapes.{HasLiveRoot, IsListing, tree_lines}, proofs.Lines.{next_piece, root_of}}
use Rattle.mt_core.proofs.shape.shape_of.Goals as goal

-- the root of a live tree is live
pub push_tree-requires : goal.push_tree-requires
push_tree-requires c =
    let v = c.args.arena.now in
    let items = c.deref-tree-items.result.now in
    let list = subst (λ ts. IsListing v.trees (map (λ (t : Bor Tree). t.now) ts)) (sym c.deref-tree-items.ensures.value) c.in_ok-listed.ensures in
    subst (λ (t : Bor Tree). HasLiveRoot v t.now) (sym c.tree-item.is) (root_of v c.facts.ensures.arena items list c.loop-tree.tree-index c.tree-item.result c.loop-tree-test.true)

-- where all are through, these are the lines of the live trees
pub returns : goal.returns
returns c =
    let v = c.args.arena.now in
    let items = c.deref-tree-items.result.now in
    let list = subst (λ ts. IsListing v.trees (map (λ (t : Bor Tree). t.now) ts)) (sym c.deref-tree-items.ensures.value) c.in_ok-listed.ensures in
    let through = ap (flat_map (λ (t : Bor Tree). tree_lines v t.now)) (take_all c.loop-tree.tree-index items c.loop-tree-test.false) in
    (map (λ (t : Bor Tree). t.now) items, list, c.loop-tree.invariant ∙ through ∙ sym (flat_map-map (tree_lines v) (λ (t : Bor Tree). t.now) items))

-- the lines of one more tree
pub loop-tree-preserved : goal.loop-tree-preserved
loop-tree-preserved c =
    let items = c.deref-tree-items.result.now in
    let i : ℕ = c.loop-tree.tree-index in
    let tree : Bor Tree = c.tree-item.result in
    let lines_of = λ (t : Bor Tree). tree_lines c.args.arena.now t.now in
    c.in_ok-push_tree.ensures
    ∙ ap (λ before. before ++ lines_of tree) c.loop-tree.invariant
    ∙ ap (λ t. flat_map lines_of (take i items) ++ lines_of t) c.tree-item.is
    ∙ next_piece lines_of items i tree c.loop-tree-test.true
