use Rattle.std.proofs.{Common.{◌≡◌, List, Bor, map, ap, subst, ◌∙◌, rules}, lemmas.List.take_all}
use Rattle.std.proofs.lemmas.List.Sorted.{IsPermutation-map, answers_always, ranks_by}
use Rattle.std.specs.{Ordering.is_lt, List.Sorted.IsPermutation}
use Rattle.mt_arena.specs.declared.tree.Tree.{Tree}
use Rattle.mt_core.{specs.Shapes.prefix_cmp, proofs.Lines.{live_of, listing, prefix_cmp_total}}
use Rattle.mt_core.proofs.shape.live_trees.Goals as goal

-- all live trees were gathered, and then sorted by their prefixes
pub returns : goal.returns
returns c =
    let v = c.args.arena.now in
    let gathered : map (λ t. t.now) c.loop-tree.listed.items ≡ live_of v.trees = c.loop-tree.invariant ∙ ap live_of (take_all _ _ c.loop-tree-test.false ∙ c.trees-tree-items.ensures) in
    let listed : List (Bor Tree) = c.sort_unstable_by.new.self.items in
    let moved = subst (λ ts. IsPermutation ts (map (λ t. t.now) listed)) gathered (IsPermutation-map (λ (t : Bor Tree). t.now) c.loop-tree.listed.items listed c.sort_unstable_by.ensures.permutation) in
    let sorted = c.sort_unstable_by.ensures.sorted (λ t u. is_lt (prefix_cmp t.now.prefix u.now.prefix)) (ranks_by prefix_cmp_total (λ (t : Bor Tree). t.now.prefix)) (answers_always _ _ _ (λ f a r g h. search rules)) in
    listing v c.facts.ensures.arena listed moved sorted
