-- That the link leads to a tree, that another operation holds its root, and what is kept once that is held, and once the layer was taken out.
use Rattle.std.proofs.Common.{rules, ◌≡◌, ℕ, Option, Some, None, inl, inr, sym, ap, subst, ◌∙◌}
use Rattle.mt_arena.specs.{NodeView.{NodeView, place_at}, declared.tree.Tree.Tree, Accesses.at, Removals.without_layer}
use Rattle.mt_operation.specs.declared.walk.Walk.{Walk}
use Rattle.mt_descent.specs.WalkMoves.{Continues}
use Rattle.mt_remove.specs.RemovalEdits.{root_of, with_lock, GoesOnEmptied}
use Rattle.mt_remove.proofs.{GoingOn.{emptied_walk, emptied_either, emptied_child}, DroppingLayers.tree_there}
use Rattle.mt_remove.proofs.CleaningOn.{held_link, root_another, held_done, held_holds, dropped_done, dropped_holds}
use Rattle.mt_remove.proofs.phases.clean_layer.clean_layer.Goals as goal

-- who holds a node
held_by : (n m : NodeView) (told holder : Option ℕ) → n ≡ m → told ≡ n.holder → told ≡ holder → m.holder ≡ holder
held_by n m told holder node tells is = ap (λ (x : NodeView). x.holder) (sym node) ∙ sym tells ∙ is

pub tree-requires : goal.tree-requires
tree-requires c =
    tree_there c.args.arena.now c.args.operation c.args.walk.now.place.node (place_at (at c.args.arena.now c.args.walk.now.place.node) c.in-Some.slot) c.cleaned-tree.result c.facts.ensures.arena
    (held_link c.args.arena.now c.args.operation (place_at (at c.args.arena.now c.args.walk.now.place.node) c.in-Some.slot) c.cleaned-tree.result c.args.key.now c.args.walk.now c.args.removal.now c.requires.kept c.in-Some.ensures.some.in_slot.in_range c.in-Some.ensures.some.link)

pub returns-in-Some-holder-clause-another : goal.returns-in-Some-holder-clause-another
returns-in-Some-holder-clause-another c = λ holds.
    root_another c.args.arena.now c.args.operation (place_at (at c.args.arena.now c.args.walk.now.place.node) c.in-Some.slot) c.cleaned-tree.result c.in-Some-holder.holder c.tree.result.now.root c.args.key.now c.args.walk.now c.args.removal.now c.facts.ensures.arena c.requires.kept
    (held_link c.args.arena.now c.args.operation (place_at (at c.args.arena.now c.args.walk.now.place.node) c.in-Some.slot) c.cleaned-tree.result c.args.key.now c.args.walk.now c.args.removal.now c.requires.kept c.in-Some.ensures.some.in_slot.in_range c.in-Some.ensures.some.link)
    (ap (λ (t : Tree). t.root) c.tree.ensures) (held_by _ _ _ _ c.node.ensures c.holder.ensures c.in-Some-holder.is) holds

pub returns-then-take_layer-clause-cleans : goal.returns-then-take_layer-clause-cleans
returns-then-take_layer-clause-cleans c =
    let v = c.args.arena.now in
    let u = c.take_layer.new.arena in
    let o = c.args.operation in
    let step = c.args.step in
    let key = c.args.key.now in
    let w = c.args.walk.now in
    let after = c.go_on_emptied.new.walk in
    let r = c.args.removal.now in
    let t = c.go_on_emptied.new.removal in
    let tree = c.cleaned-tree.result in
    let slot = place_at (at v w.place.node) c.in-Some.slot in
    let root = c.tree.result.now.root in
    let arena = c.facts.ensures.arena in
    let kept = c.requires.kept in
    let leads = c.in-Some.ensures.some in
    let link = held_link v o slot tree key w r kept leads.in_slot.in_range leads.link in
    let root_is : root ≡ root_of v tree = ap (λ (t : Tree). t.root) c.tree.ensures in
    let free : (at v root).holder ≡ None = held_by _ _ _ _ c.node.ensures c.holder.ensures c.in_default-holder.is in
    let dropped = c.take_layer.ensures.drops c.if-take_layer.true in
    let empty = c.take_layer.ensures.empty c.if-take_layer.true in
    let goes = c.go_on_emptied.ensures in
    let walk = emptied_walk u w after (record r { below = Some root }) t goes in
    record {
      tree = tree;
      cleans = c.cleaned-tree.ensures;
      is = inr (inr (record {
        free = ap (λ k. (at v k).holder) (sym root_is) ∙ free;
        empty = (ap (λ k. (at v k).level) (sym root_is) ∙ empty.0, ap (λ k. (at v k).slots) (sym root_is) ∙ empty.1);
        slot = c.in-Some.slot;
        leads = leads;
        is = dropped ∙ ap (λ (k : ℕ). without_layer (with_lock v k o) w.place.node slot tree step) root_is;
        goes = subst (λ (k : ℕ). GoesOnEmptied u w after (record r { below = Some k }) t) root_is goes;
      }));
      keeps = record { same = subst (λ (x : Walk). Continues w x) (sym walk) (search rules); guarantee = c.take_layer.ensures.step; contents = c.take_layer.ensures.contents };
      kept = dropped_done v u o slot tree root step key w after r t arena kept link root_is free dropped c.take_layer.ensures.settled walk
          (emptied_either u w after (record r { below = Some root }) t goes) (emptied_child u w after (record r { below = Some root }) t goes) goes.removal;
      holds = dropped_holds v u o slot tree root step key w after r t arena kept link root_is dropped walk goes.removal;
    }

pub returns-else-take_layer-clause-cleans : goal.returns-else-take_layer-clause-cleans
returns-else-take_layer-clause-cleans c =
    let v = c.args.arena.now in
    let u = c.take_layer.new.arena in
    let o = c.args.operation in
    let key = c.args.key.now in
    let w = c.args.walk.now in
    let r = c.args.removal.now in
    let tree = c.cleaned-tree.result in
    let slot = place_at (at v w.place.node) c.in-Some.slot in
    let root = c.tree.result.now.root in
    let arena = c.facts.ensures.arena in
    let kept = c.requires.kept in
    let leads = c.in-Some.ensures.some in
    let link = held_link v o slot tree key w r kept leads.in_slot.in_range leads.link in
    let root_is : root ≡ root_of v tree = ap (λ (t : Tree). t.root) c.tree.ensures in
    let free : (at v root).holder ≡ None = held_by _ _ _ _ c.node.ensures c.holder.ensures c.in_default-holder.is in
    let locked = c.take_layer.ensures.leaves c.if-take_layer.false in
    record {
      tree = tree;
      cleans = c.cleaned-tree.ensures;
      is = inr (inl (record {
        slot = c.in-Some.slot;
        leads = leads;
        free = ap (λ k. (at v k).holder) (sym root_is) ∙ free;
        full = λ border none. c.take_layer.ensures.full c.if-take_layer.false (ap (λ k. (at v k).level) root_is ∙ border) (ap (λ k. (at v k).slots) root_is ∙ none);
        is = locked ∙ ap (λ (k : ℕ). with_lock v k o) root_is;
        walk = search rules;
        removal = ap (λ (k : ℕ). record r { below = Some k }) root_is;
      }));
      keeps = record { same = search rules; guarantee = c.take_layer.ensures.step; contents = c.take_layer.ensures.contents };
      kept = held_done v u o slot tree root key w r arena kept link root_is free locked c.take_layer.ensures.settled;
      holds = held_holds v u o slot tree root key w r arena kept link root_is locked;
    }
