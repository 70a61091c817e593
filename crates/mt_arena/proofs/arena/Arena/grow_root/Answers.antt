-- The root comes into the place that is chosen, or into a new one, for which there is room then.
use Rattle.std.proofs.Common.{◌≡◌, refl, sym, ap, ◌∙◌, length, arith}
use Rattle.mt_interior.specs.Fences.{end_of}
use Rattle.mt_arena.specs.{NodeView.NodeView, Idle.chosen, Given.{AreForgotten, MayRenew}, Arena.ArenaView, Accesses.{at, tree_of}, Edits.version_in, Several.MayGrow}
use Rattle.mt_arena.proofs.{Pairs.read, Heights.level_few, TopNodes.read_tree, Giving.{steps_from_same, chosen_inner, inner_out, inner_within, inner_none, inner_few}}
use Rattle.mt_arena.proofs.Topping.{sound_grown, settled_grown, steps_grown, content_grown, are_grown}
use Rattle.mt_arena.proofs.arena.Arena.grow_root.Goals as goal

pub inner_place-requires-clause-there : goal.inner_place-requires-clause-there
inner_place-requires-clause-there c =
    let v : ArenaView = record { nodes = c.self.inside.nodes.items; trees = c.self.inside.trees.items; retired = c.self.inside.retired.places } in
    λ p e. (chosen_inner v c.args.least p c.self.invariant.retired e (rw (← c.self.view_is) at c.requires.forgotten)).there

pub inner_place-requires-clause-renews : goal.inner_place-requires-clause-renews
inner_place-requires-clause-renews c =
    let v : ArenaView = record { nodes = c.self.inside.nodes.items; trees = c.self.inside.trees.items; retired = c.self.inside.retired.places } in
    let renews : MayRenew c.args.least v = rw (← c.self.view_is) at c.requires.renews in
    λ p e. renews p (inner_out v c.args.least p e)

pub invariant_of-self : goal.invariant_of-self
invariant_of-self c =
    let room = c.in_err-place.ensures in
    rw (room.nodes, room.trees, room.unchanged_on_err)
    (record { arena = c.self.invariant.arena; retired = c.self.invariant.retired; named = c.self.invariant.named; enough = omega (arith, c.self.invariant.enough, room.no_less); trees_enough = omega (arith, c.self.invariant.trees_enough, room.no_fewer) })

pub put_top-requires-clause-not_too_high : goal.put_top-requires-clause-not_too_high
put_top-requires-clause-not_too_high c =
    let may = rw (← c.self.view_is) at c.requires.may in
    rw c.in_ok-place.ensures.nodes (omega (
      arith,
      level_few c.self.inside.nodes.items c.self.invariant.arena.nodes c.self.invariant.arena.ranged c.args.left may.held.there may.grows.left_live
          (omega (arith, may.grows.left_low, may.grows.above, ap end_of may.grows.fence)),
      c.self.invariant.enough,
    ))

pub put_top-requires-clause-number : goal.put_top-requires-clause-number
put_top-requires-clause-number c =
    let v : ArenaView = record { nodes = c.self.inside.nodes.items; trees = c.self.inside.trees.items; retired = c.self.inside.retired.places } in
    let room = c.in_ok-place.ensures in
    rw room.nodes (omega (arith, room.number, inner_within v c.args.least c.self.invariant.retired (rw (← c.self.view_is) at c.requires.forgotten)))

pub put_top-requires-clause-room : goal.put_top-requires-clause-room
put_top-requires-clause-room c =
    let v : ArenaView = record { nodes = c.self.inside.nodes.items; trees = c.self.inside.trees.items; retired = c.self.inside.retired.places } in
    let room = c.in_ok-place.ensures in
    λ last. room.capacity (inner_none v c.args.least c.self.invariant.retired (rw (← c.self.view_is) at c.requires.forgotten) (sym room.number ∙ last ∙ ap length room.nodes))

pub put_top-requires-clause-few : goal.put_top-requires-clause-few
put_top-requires-clause-few c =
    let v : ArenaView = record { nodes = c.self.inside.nodes.items; trees = c.self.inside.trees.items; retired = c.self.inside.retired.places } in
    let room = c.in_ok-place.ensures in
    omega (
      arith,
      room.number,
      inner_few v c.args.least c.self.invariant.retired (rw (← c.self.view_is) at c.requires.forgotten) 4294967295 (omega (arith, c.self.invariant.enough)) (λ none. omega (arith, room.few none, ap length room.nodes)),
    )

pub invariant_of-self-2 : goal.invariant_of-self-2
invariant_of-self-2 c =
    let v : ArenaView = record { nodes = c.self.inside.nodes.items; trees = c.self.inside.trees.items; retired = c.self.inside.retired.places } in
    let may : MayGrow v c.args.left c.args.right c.args.operation = rw (← c.self.view_is) at c.requires.may in
    let forgotten : AreForgotten c.args.least v = rw (← c.self.view_is) at c.requires.forgotten in
    let room = c.in_ok-place.ensures in
    let tree_is : c.tree-tree.result ≡ (at v c.args.left).tree = c.tree-tree.ensures ∙ ap (λ (n : NodeView). n.tree) (read v.nodes c.args.left c.index.result.now may.held.there (rw room.nodes at c.index.ensures)) in
    let record_is : c.index_mut.result.now ≡ tree_of v c.args.left = read_tree v.trees (at v c.args.left).tree c.index_mut.result.now (c.self.invariant.arena.forest.tree_there c.args.left may.held.there) (rw (room.trees, tree_is) at c.index_mut.ensures.value) in
    let are = are_grown v _ (record { nodes = 0; trees = 0 }) c.args.left c.args.right c.args.least c.args.operation c.self.invariant may forgotten c.put_top.new.nodes.items _ _ room.number
    (room.version ∙ ap (version_in (chosen v.retired.interiors c.args.least) v.nodes) c.root_interior-fresh.ensures.value) (rw room.nodes at c.put_top.ensures.old_place) (rw room.nodes at c.put_top.ensures.new_place) in
    rw (are, room.trees, room.given, room.number, tree_is, record_is)
    (sound_grown v _ _ c.args.left c.args.right c.args.least c.args.operation c.self.invariant may forgotten (λ none. omega (arith, room.room none, room.few none, ap length room.nodes))
    (omega (arith, c.self.invariant.enough, room.no_less)) (omega (arith, c.self.invariant.trees_enough, room.no_fewer)))

pub returns-in_err-place-clause-step : goal.returns-in_err-place-clause-step
returns-in_err-place-clause-step c =
    let v : ArenaView = record { nodes = c.self.inside.nodes.items; trees = c.self.inside.trees.items; retired = c.self.inside.retired.places } in
    let room = c.in_err-place.ensures in
    rw (← c.self.view_is, room.nodes, room.trees, room.unchanged_on_err) (steps_from_same v c.args.least c.args.operation)

pub returns-clause-is : goal.returns-clause-is
returns-clause-is c =
    let v : ArenaView = record { nodes = c.self.inside.nodes.items; trees = c.self.inside.trees.items; retired = c.self.inside.retired.places } in
    let may : MayGrow v c.args.left c.args.right c.args.operation = rw (← c.self.view_is) at c.requires.may in
    let forgotten : AreForgotten c.args.least v = rw (← c.self.view_is) at c.requires.forgotten in
    let room = c.in_ok-place.ensures in
    let tree_is : c.tree-tree.result ≡ (at v c.args.left).tree = c.tree-tree.ensures ∙ ap (λ (n : NodeView). n.tree) (read v.nodes c.args.left c.index.result.now may.held.there (rw room.nodes at c.index.ensures)) in
    let record_is : c.index_mut.result.now ≡ tree_of v c.args.left = read_tree v.trees (at v c.args.left).tree c.index_mut.result.now (c.self.invariant.arena.forest.tree_there c.args.left may.held.there) (rw (room.trees, tree_is) at c.index_mut.ensures.value) in
    let are = are_grown v _ (record { nodes = 0; trees = 0 }) c.args.left c.args.right c.args.least c.args.operation c.self.invariant may forgotten c.put_top.new.nodes.items _ _ room.number
    (room.version ∙ ap (version_in (chosen v.retired.interiors c.args.least) v.nodes) c.root_interior-fresh.ensures.value) (rw room.nodes at c.put_top.ensures.old_place) (rw room.nodes at c.put_top.ensures.new_place) in
    rw (← c.self.view_is, are, room.trees, room.given, room.number, tree_is, record_is) refl

pub returns-clause-step : goal.returns-clause-step
returns-clause-step c =
    let v : ArenaView = record { nodes = c.self.inside.nodes.items; trees = c.self.inside.trees.items; retired = c.self.inside.retired.places } in
    let may : MayGrow v c.args.left c.args.right c.args.operation = rw (← c.self.view_is) at c.requires.may in
    let forgotten : AreForgotten c.args.least v = rw (← c.self.view_is) at c.requires.forgotten in
    let room = c.in_ok-place.ensures in
    let tree_is : c.tree-tree.result ≡ (at v c.args.left).tree = c.tree-tree.ensures ∙ ap (λ (n : NodeView). n.tree) (read v.nodes c.args.left c.index.result.now may.held.there (rw room.nodes at c.index.ensures)) in
    let record_is : c.index_mut.result.now ≡ tree_of v c.args.left = read_tree v.trees (at v c.args.left).tree c.index_mut.result.now (c.self.invariant.arena.forest.tree_there c.args.left may.held.there) (rw (room.trees, tree_is) at c.index_mut.ensures.value) in
    let are = are_grown v _ (record { nodes = 0; trees = 0 }) c.args.left c.args.right c.args.least c.args.operation c.self.invariant may forgotten c.put_top.new.nodes.items _ _ room.number
    (room.version ∙ ap (version_in (chosen v.retired.interiors c.args.least) v.nodes) c.root_interior-fresh.ensures.value) (rw room.nodes at c.put_top.ensures.old_place) (rw room.nodes at c.put_top.ensures.new_place) in
    rw (← c.self.view_is, are, room.trees, room.given, room.number, tree_is, record_is)
    (steps_grown v _ (record { nodes = 0; trees = 0 }) c.args.left c.args.right c.args.least c.args.operation c.self.invariant may forgotten)

pub returns-clause-contents : goal.returns-clause-contents
returns-clause-contents c =
    let v : ArenaView = record { nodes = c.self.inside.nodes.items; trees = c.self.inside.trees.items; retired = c.self.inside.retired.places } in
    let may : MayGrow v c.args.left c.args.right c.args.operation = rw (← c.self.view_is) at c.requires.may in
    let forgotten : AreForgotten c.args.least v = rw (← c.self.view_is) at c.requires.forgotten in
    let room = c.in_ok-place.ensures in
    let tree_is : c.tree-tree.result ≡ (at v c.args.left).tree = c.tree-tree.ensures ∙ ap (λ (n : NodeView). n.tree) (read v.nodes c.args.left c.index.result.now may.held.there (rw room.nodes at c.index.ensures)) in
    let record_is : c.index_mut.result.now ≡ tree_of v c.args.left = read_tree v.trees (at v c.args.left).tree c.index_mut.result.now (c.self.invariant.arena.forest.tree_there c.args.left may.held.there) (rw (room.trees, tree_is) at c.index_mut.ensures.value) in
    let are = are_grown v _ (record { nodes = 0; trees = 0 }) c.args.left c.args.right c.args.least c.args.operation c.self.invariant may forgotten c.put_top.new.nodes.items _ _ room.number
    (room.version ∙ ap (version_in (chosen v.retired.interiors c.args.least) v.nodes) c.root_interior-fresh.ensures.value) (rw room.nodes at c.put_top.ensures.old_place) (rw room.nodes at c.put_top.ensures.new_place) in
    rw (← c.self.view_is, are, room.trees, room.number, tree_is, record_is)
    (content_grown v _ (record { nodes = 0; trees = 0 }) c.args.left c.args.right c.args.least c.args.operation c.self.invariant may forgotten)

pub returns-clause-settled : goal.returns-clause-settled
returns-clause-settled c =
    let v : ArenaView = record { nodes = c.self.inside.nodes.items; trees = c.self.inside.trees.items; retired = c.self.inside.retired.places } in
    let may : MayGrow v c.args.left c.args.right c.args.operation = rw (← c.self.view_is) at c.requires.may in
    let forgotten : AreForgotten c.args.least v = rw (← c.self.view_is) at c.requires.forgotten in
    let room = c.in_ok-place.ensures in
    let tree_is : c.tree-tree.result ≡ (at v c.args.left).tree = c.tree-tree.ensures ∙ ap (λ (n : NodeView). n.tree) (read v.nodes c.args.left c.index.result.now may.held.there (rw room.nodes at c.index.ensures)) in
    let record_is : c.index_mut.result.now ≡ tree_of v c.args.left = read_tree v.trees (at v c.args.left).tree c.index_mut.result.now (c.self.invariant.arena.forest.tree_there c.args.left may.held.there) (rw (room.trees, tree_is) at c.index_mut.ensures.value) in
    let are = are_grown v _ (record { nodes = 0; trees = 0 }) c.args.left c.args.right c.args.least c.args.operation c.self.invariant may forgotten c.put_top.new.nodes.items _ _ room.number
    (room.version ∙ ap (version_in (chosen v.retired.interiors c.args.least) v.nodes) c.root_interior-fresh.ensures.value) (rw room.nodes at c.put_top.ensures.old_place) (rw room.nodes at c.put_top.ensures.new_place) in
    rw (are, room.number)
    (settled_grown v _ (record { nodes = 0; trees = 0 }) c.args.left c.args.right c.args.least c.args.operation c.self.invariant may forgotten)
