-- That nobody else is making the lower tree, that it may be taken out once its empty root is held, and what that leaves.
use Rattle.std.proofs.Common.{rules, ◌≡◌, [], sym, ap, subst, ◌∙◌}
use Rattle.mt_arena.specs.{NodeView.{NodeView, place_at}, Layers.slot_at, Settled.IsSettled, Arena.ArenaView, Given.AreOutUpTo, Accesses.{at, IsOpen}, Removals.{MayDropLayer, without_layer}}
use Rattle.mt_remove.specs.RemovalEdits.{with_lock, root_of}
use Rattle.mt_remove.proofs.DroppingLayers.{root_open, root_now, may_drop, settled_on, locked_is, free_is, link_there, slot_kept, dropped_settled, dropped_step}
use Rattle.mt_remove.proofs.phases.clean_layer.take_layer.Goals as goal

pub lock-requires-clause-mine : goal.lock-requires-clause-mine
lock-requires-clause-mine c =
    subst (λ k. IsOpen c.args.arena.now k c.args.operation) (sym c.requires.root)
    (root_open c.args.arena.now c.args.operation c.args.walk.now.place.node (place_at (at c.args.arena.now c.args.walk.now.place.node) c.args.slot) c.args.tree c.facts.ensures.arena c.requires.held)

pub returns-then-not-is_empty-clause-settled : goal.returns-then-not-is_empty-clause-settled
returns-then-not-is_empty-clause-settled c = λ k within settled.
    let v = c.args.arena.now in
    let is = locked_is v c.lock.new.self c.args.operation c.args.root c.args.tree c.requires.root c.lock.ensures.is in
    subst (λ (m : ArenaView). IsSettled m.nodes k (at m k)) (sym is)
    (settled_on v c.args.operation c.args.walk.now.place.node (place_at (at c.args.arena.now c.args.walk.now.place.node) c.args.slot) c.args.tree c.facts.ensures.arena c.requires.held (free_is v c.args.root c.args.tree c.requires.root c.requires.free) k within settled)

pub drop_layer-requires-clause-may : goal.drop_layer-requires-clause-may
drop_layer-requires-clause-may c =
    let v = c.args.arena.now in
    let is = locked_is v c.lock.new.self c.args.operation c.args.root c.args.tree c.requires.root c.lock.ensures.is in
    let empty = c.is_empty_border-is_empty.ensures.yes (search (rules, c.if-not-is_empty.false)) in
    let b = root_of v c.args.tree in
    let now = root_now v c.args.operation c.args.walk.now.place.node (place_at (at c.args.arena.now c.args.walk.now.place.node) c.args.slot) c.args.tree c.facts.ensures.arena c.requires.held (free_is v c.args.root c.args.tree c.requires.root c.requires.free) in
    let found : ((at (with_lock v b c.args.operation) b).level ≡ 0) × ((at (with_lock v b c.args.operation) b).slots ≡ []) = (
      ap (λ (n : NodeView). n.level) now ∙ ap (λ k. (at v k).level) (sym c.requires.root) ∙ empty.0,
      ap (λ (n : NodeView). n.slots) now ∙ ap (λ k. (at v k).slots) (sym c.requires.root) ∙ empty.1,
    ) in (
      c.args.tree,
      subst (λ i. MayDropLayer c.lock.new.self c.args.walk.now.place.node i c.args.tree c.args.operation)
          (sym (slot_kept v c.lock.new.self c.args.operation c.args.walk.now.place.node _ c.args.slot c.args.tree c.facts.ensures.arena c.requires.held (free_is v c.args.root c.args.tree c.requires.root c.requires.free) is))
          (subst (λ (m : ArenaView). MayDropLayer m c.args.walk.now.place.node (place_at (at c.args.arena.now c.args.walk.now.place.node) c.args.slot) c.args.tree c.args.operation) (sym is)
          (may_drop v c.args.operation c.args.walk.now.place.node (place_at (at c.args.arena.now c.args.walk.now.place.node) c.args.slot) c.args.tree c.facts.ensures.arena c.requires.held (free_is v c.args.root c.args.tree c.requires.root c.requires.free) found.0 found.1)),
    )

-- to lock a node takes nothing out
pub drop_layer-requires-clause-upto : goal.drop_layer-requires-clause-upto
drop_layer-requires-clause-upto c = subst (λ (m : ArenaView). AreOutUpTo c.args.step m.retired) (sym c.lock.ensures.is) c.requires.upto

pub returns-clause-drops : goal.returns-clause-drops
returns-clause-drops c = λ yes.
    let v = c.args.arena.now in
    let is = locked_is v c.lock.new.self c.args.operation c.args.root c.args.tree c.requires.root c.lock.ensures.is in
    let link = link_there v c.lock.new.self c.args.operation c.args.walk.now.place.node (place_at (at c.args.arena.now c.args.walk.now.place.node) c.args.slot) c.args.tree c.facts.ensures.arena c.requires.held (free_is v c.args.root c.args.tree c.requires.root c.requires.free) is in
    let place = slot_kept v c.lock.new.self c.args.operation c.args.walk.now.place.node _ c.args.slot c.args.tree c.facts.ensures.arena c.requires.held (free_is v c.args.root c.args.tree c.requires.root c.requires.free) is in
    c.drop_layer.ensures.is c.args.tree (ap (λ i. (slot_at (at c.lock.new.self c.args.walk.now.place.node) i).held) place ∙ link)
    ∙ ap (λ i. without_layer c.lock.new.self c.args.walk.now.place.node i c.args.tree c.args.step) place
    ∙ ap (λ (m : ArenaView). without_layer m c.args.walk.now.place.node (place_at (at c.args.arena.now c.args.walk.now.place.node) c.args.slot) c.args.tree c.args.step) c.lock.ensures.is

pub returns-clause-settled : goal.returns-clause-settled
returns-clause-settled c = λ k within settled.
    let v = c.args.arena.now in
    let is = locked_is v c.lock.new.self c.args.operation c.args.root c.args.tree c.requires.root c.lock.ensures.is in
    let free = free_is v c.args.root c.args.tree c.requires.root c.requires.free in
    let link = link_there v c.lock.new.self c.args.operation c.args.walk.now.place.node (place_at (at c.args.arena.now c.args.walk.now.place.node) c.args.slot) c.args.tree c.facts.ensures.arena c.requires.held free is in
    let place = slot_kept v c.lock.new.self c.args.operation c.args.walk.now.place.node _ c.args.slot c.args.tree c.facts.ensures.arena c.requires.held free is in
    let there = ap (λ i. (slot_at (at c.lock.new.self c.args.walk.now.place.node) i).held) place ∙ link in
    let dropped = c.drop_layer.ensures.is c.args.tree there ∙ ap (λ i. without_layer c.lock.new.self c.args.walk.now.place.node i c.args.tree c.args.step) place in
    dropped_settled v c.lock.new.self c.drop_layer.new.self c.args.operation c.args.walk.now.place.node (place_at (at c.args.arena.now c.args.walk.now.place.node) c.args.slot) c.args.tree c.facts.ensures.arena c.requires.held free c.args.step is dropped
    c.drop_layer.ensures.settled (c.drop_layer.ensures.root_settled c.args.tree there) (λ j. c.drop_layer.ensures.others_settled c.args.tree j there) k within settled

pub returns-clause-step : goal.returns-clause-step
returns-clause-step c =
    let v = c.args.arena.now in
    let is = locked_is v c.lock.new.self c.args.operation c.args.root c.args.tree c.requires.root c.lock.ensures.is in
    let free = free_is v c.args.root c.args.tree c.requires.root c.requires.free in
    let link = link_there v c.lock.new.self c.args.operation c.args.walk.now.place.node (place_at (at c.args.arena.now c.args.walk.now.place.node) c.args.slot) c.args.tree c.facts.ensures.arena c.requires.held free is in
    let place = slot_kept v c.lock.new.self c.args.operation c.args.walk.now.place.node _ c.args.slot c.args.tree c.facts.ensures.arena c.requires.held free is in
    let there = ap (λ i. (slot_at (at c.lock.new.self c.args.walk.now.place.node) i).held) place ∙ link in
    let dropped = c.drop_layer.ensures.is c.args.tree there ∙ ap (λ i. without_layer c.lock.new.self c.args.walk.now.place.node i c.args.tree c.args.step) place in
    dropped_step v c.lock.new.self c.drop_layer.new.self c.args.operation c.args.walk.now.place.node (place_at (at c.args.arena.now c.args.walk.now.place.node) c.args.slot) c.args.tree c.facts.ensures.arena c.requires.held free c.args.step is dropped c.lock.ensures.step c.drop_layer.ensures.step
