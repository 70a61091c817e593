-- The tree's record and its root come into the places that are chosen, or into new ones, for which there is room then.
use Rattle.std.proofs.Common.{◌≡◌, refl, sym, ap, ◌∙◌, length, true, arith}
use Rattle.mt_version.specs.Parts.{fresh_parts}
use Rattle.mt_arena.specs.{Idle.{RetiredPlaces, Rooms, IdlePlacesView, chosen, given_border, given_tree, given_layer}, Given.{AreForgotten, MayRenew}, Arena.ArenaView, Edits.version_in}
use Rattle.mt_arena.specs.Layering.{MayMakeLayer, border_number, tree_number}
use Rattle.mt_arena.proofs.Giving.{steps_from_same, chosen_place, border_out_by}
use Rattle.mt_arena.proofs.LayerAt.{sound_layer_at, content_layer_at, steps_layer_at, nodes_count, trees_count, root_within, tree_within, are_nodes, are_trees}
use Rattle.mt_arena.proofs.arena.Arena.make_layer.Goals as goal

pub invariant_of-self : goal.invariant_of-self
invariant_of-self c =
    let room = c.in_err-layer_room.ensures in
    rw (room.nodes, room.trees, room.retired)
    (record { arena = c.self.invariant.arena; retired = c.self.invariant.retired; named = c.self.invariant.named; enough = omega (arith, c.self.invariant.enough, room.no_less); trees_enough = omega (arith, c.self.invariant.trees_enough, room.no_fewer) })

pub returns-in_err-layer_room-clause-step : goal.returns-in_err-layer_room-clause-step
returns-in_err-layer_room-clause-step c =
    let v : ArenaView = record { nodes = c.self.inside.nodes.items; trees = c.self.inside.trees.items; retired = c.self.inside.retired.places } in
    let room = c.in_err-layer_room.ensures in
    rw (← c.self.view_is, room.nodes, room.trees, room.retired) (steps_from_same v c.args.least c.args.operation)

pub root_place-place-requires-clause-there : goal.root_place-place-requires-clause-there
root_place-place-requires-clause-there c =
    let v : ArenaView = record { nodes = c.self.inside.nodes.items; trees = c.self.inside.trees.items; retired = c.self.inside.retired.places } in
    let forgotten : AreForgotten c.args.least v = rw (← c.self.view_is) at c.requires.forgotten in
    let room = c.in_ok-layer_room.ensures in
    rw (room.retired, room.nodes) (λ p e. (chosen_place v c.args.least p c.self.invariant.retired e forgotten).there)

pub root_place-place-requires-clause-renews : goal.root_place-place-requires-clause-renews
root_place-place-requires-clause-renews c =
    let v : ArenaView = record { nodes = c.self.inside.nodes.items; trees = c.self.inside.trees.items; retired = c.self.inside.retired.places } in
    let renews : MayRenew c.args.least v = rw (← c.self.view_is) at c.requires.renews in
    let room = c.in_ok-layer_room.ensures in
    rw (room.retired, room.nodes) (λ p e. renews p (border_out_by v c.args.least p e))

pub put-requires-clause-there : goal.put-requires-clause-there
put-requires-clause-there c =
    let v : ArenaView = record { nodes = c.self.inside.nodes.items; trees = c.self.inside.trees.items; retired = c.self.inside.retired.places } in
    let forgotten : AreForgotten c.args.least v = rw (← c.self.view_is) at c.requires.forgotten in
    let may : MayMakeLayer v c.args.prefix c.args.entry = rw (← c.self.view_is) at c.requires.may in
    let room = c.in_ok-layer_room.ensures in
    let root_is : c.root_place-place.result.number ≡ border_number c.args.least v = rw (room.retired, room.nodes) at c.root_place-place.ensures.number in
    rw room.nodes (omega (arith, root_is, (root_within v _ (record { nodes = 0; trees = 0 }) c.args.operation c.args.least c.args.prefix c.args.entry c.self.invariant may forgotten).0))

pub put-requires-clause-room : goal.put-requires-clause-room
put-requires-clause-room c =
    let v : ArenaView = record { nodes = c.self.inside.nodes.items; trees = c.self.inside.trees.items; retired = c.self.inside.retired.places } in
    let forgotten : AreForgotten c.args.least v = rw (← c.self.view_is) at c.requires.forgotten in
    let may : MayMakeLayer v c.args.prefix c.args.entry = rw (← c.self.view_is) at c.requires.may in
    let room = c.in_ok-layer_room.ensures in
    let root_is : c.root_place-place.result.number ≡ border_number c.args.least v = rw (room.retired, room.nodes) at c.root_place-place.ensures.number in
    λ last. room.node_room ((root_within v _ (record { nodes = 0; trees = 0 }) c.args.operation c.args.least c.args.prefix c.args.entry c.self.invariant may forgotten).1 (sym root_is ∙ last ∙ ap length room.nodes))

pub put_tree-requires-clause-there : goal.put_tree-requires-clause-there
put_tree-requires-clause-there c =
    let v : ArenaView = record { nodes = c.self.inside.nodes.items; trees = c.self.inside.trees.items; retired = c.self.inside.retired.places } in
    let forgotten : AreForgotten c.args.least v = rw (← c.self.view_is) at c.requires.forgotten in
    let may : MayMakeLayer v c.args.prefix c.args.entry = rw (← c.self.view_is) at c.requires.may in
    let room = c.in_ok-layer_room.ensures in
    let root_is : c.root_place-place.result.number ≡ border_number c.args.least v = rw (room.retired, room.nodes) at c.root_place-place.ensures.number in
    let version_is : c.root_place-place.result.version ≡ version_in (chosen v.retired.borders c.args.least) v.nodes (fresh_parts true true) = rw (room.retired, room.nodes) at c.root_place-place.ensures.version in
    let left : c.root_place-place.new.retired.places ≡ given_border v.retired c.args.least = ap (λ (p : IdlePlacesView). p.places) c.root_place-place.ensures.given ∙ ap (λ (gone : RetiredPlaces). given_border gone c.args.least) room.retired in
    let tree_is : c.tree_place-tree.result ≡ tree_number c.args.least v = rw (left, room.trees) at c.tree_place-tree.ensures.number in
    rw room.trees (omega (arith, tree_is, (tree_within v _ (record { nodes = 0; trees = 0 }) c.args.operation c.args.least c.args.prefix c.args.entry c.self.invariant may forgotten).0))

pub put_tree-requires-clause-room : goal.put_tree-requires-clause-room
put_tree-requires-clause-room c =
    let v : ArenaView = record { nodes = c.self.inside.nodes.items; trees = c.self.inside.trees.items; retired = c.self.inside.retired.places } in
    let forgotten : AreForgotten c.args.least v = rw (← c.self.view_is) at c.requires.forgotten in
    let may : MayMakeLayer v c.args.prefix c.args.entry = rw (← c.self.view_is) at c.requires.may in
    let room = c.in_ok-layer_room.ensures in
    let root_is : c.root_place-place.result.number ≡ border_number c.args.least v = rw (room.retired, room.nodes) at c.root_place-place.ensures.number in
    let version_is : c.root_place-place.result.version ≡ version_in (chosen v.retired.borders c.args.least) v.nodes (fresh_parts true true) = rw (room.retired, room.nodes) at c.root_place-place.ensures.version in
    let left : c.root_place-place.new.retired.places ≡ given_border v.retired c.args.least = ap (λ (p : IdlePlacesView). p.places) c.root_place-place.ensures.given ∙ ap (λ (gone : RetiredPlaces). given_border gone c.args.least) room.retired in
    let tree_is : c.tree_place-tree.result ≡ tree_number c.args.least v = rw (left, room.trees) at c.tree_place-tree.ensures.number in
    λ last. room.tree_room ((tree_within v _ (record { nodes = 0; trees = 0 }) c.args.operation c.args.least c.args.prefix c.args.entry c.self.invariant may forgotten).1 (sym tree_is ∙ last ∙ ap length room.trees))

pub invariant_of-self-2 : goal.invariant_of-self-2
invariant_of-self-2 c =
    let v : ArenaView = record { nodes = c.self.inside.nodes.items; trees = c.self.inside.trees.items; retired = c.self.inside.retired.places } in
    let forgotten : AreForgotten c.args.least v = rw (← c.self.view_is) at c.requires.forgotten in
    let may : MayMakeLayer v c.args.prefix c.args.entry = rw (← c.self.view_is) at c.requires.may in
    let room = c.in_ok-layer_room.ensures in
    let root_is : c.root_place-place.result.number ≡ border_number c.args.least v = rw (room.retired, room.nodes) at c.root_place-place.ensures.number in
    let version_is : c.root_place-place.result.version ≡ version_in (chosen v.retired.borders c.args.least) v.nodes (fresh_parts true true) = rw (room.retired, room.nodes) at c.root_place-place.ensures.version in
    let left : c.root_place-place.new.retired.places ≡ given_border v.retired c.args.least = ap (λ (p : IdlePlacesView). p.places) c.root_place-place.ensures.given ∙ ap (λ (gone : RetiredPlaces). given_border gone c.args.least) room.retired in
    let tree_is : c.tree_place-tree.result ≡ tree_number c.args.least v = rw (left, room.trees) at c.tree_place-tree.ensures.number in
    let lists : c.tree_place-tree.new.retired.places ≡ given_layer v.retired c.args.least = ap (λ (p : IdlePlacesView). p.places) c.tree_place-tree.ensures.given ∙ ap (λ (gone : RetiredPlaces). given_tree gone c.args.least) left in
    let nodes_are = are_nodes v _ (record { nodes = 0; trees = 0 }) c.args.operation c.args.least c.args.prefix c.args.entry c.self.invariant may forgotten c.put.new.nodes.items _ _ root_is version_is
    (rw (room.nodes, c.root_of.ensures, tree_is) at c.put.ensures.old_place) (rw (room.nodes, c.root_of.ensures, tree_is) at c.put.ensures.new_place) in
    let trees_are = are_trees v _ (record { nodes = 0; trees = 0 }) c.args.operation c.args.least c.args.prefix c.args.entry c.self.invariant may forgotten c.put_tree.new.trees.items _ tree_is
    (rw (room.trees, root_is) at c.put_tree.ensures.old_place) (rw (room.trees, root_is) at c.put_tree.ensures.new_place) in
    let same_room : c.tree_place-tree.new.retired.room ≡ c.layer_room.new.retired.room = ap (λ (p : IdlePlacesView). p.room) c.tree_place-tree.ensures.given ∙ ap (λ (p : IdlePlacesView). p.room) c.root_place-place.ensures.given in
    let nodes_room = ap (λ (r : Rooms). r.nodes) same_room in
    let trees_room = ap (λ (r : Rooms). r.trees) same_room in
    rw (nodes_are, trees_are, lists)
    (sound_layer_at v _ _ c.args.operation c.args.least c.args.prefix c.args.entry c.self.invariant may forgotten
    (nodes_count v _ (record { nodes = 0; trees = 0 }) c.args.operation c.args.least c.args.prefix c.args.entry c.self.invariant may forgotten _ (omega (arith, nodes_room, c.self.invariant.enough, room.no_less)) (λ none. omega (arith, nodes_room, room.room none, room.few_nodes none, ap length room.nodes)))
    (trees_count v _ (record { nodes = 0; trees = 0 }) c.args.operation c.args.least c.args.prefix c.args.entry c.self.invariant may forgotten _ (omega (arith, trees_room, c.self.invariant.trees_enough, room.no_fewer)) (λ none. omega (arith, trees_room, room.trees_room none, room.few_trees none, ap length room.trees))))

pub returns-clause-number : goal.returns-clause-number
returns-clause-number c =
    let v : ArenaView = record { nodes = c.self.inside.nodes.items; trees = c.self.inside.trees.items; retired = c.self.inside.retired.places } in
    let forgotten : AreForgotten c.args.least v = rw (← c.self.view_is) at c.requires.forgotten in
    let may : MayMakeLayer v c.args.prefix c.args.entry = rw (← c.self.view_is) at c.requires.may in
    let room = c.in_ok-layer_room.ensures in
    let root_is : c.root_place-place.result.number ≡ border_number c.args.least v = rw (room.retired, room.nodes) at c.root_place-place.ensures.number in
    let version_is : c.root_place-place.result.version ≡ version_in (chosen v.retired.borders c.args.least) v.nodes (fresh_parts true true) = rw (room.retired, room.nodes) at c.root_place-place.ensures.version in
    let left : c.root_place-place.new.retired.places ≡ given_border v.retired c.args.least = ap (λ (p : IdlePlacesView). p.places) c.root_place-place.ensures.given ∙ ap (λ (gone : RetiredPlaces). given_border gone c.args.least) room.retired in
    let tree_is : c.tree_place-tree.result ≡ tree_number c.args.least v = rw (left, room.trees) at c.tree_place-tree.ensures.number in
    rw (← c.self.view_is) tree_is

pub returns-clause-is : goal.returns-clause-is
returns-clause-is c =
    let v : ArenaView = record { nodes = c.self.inside.nodes.items; trees = c.self.inside.trees.items; retired = c.self.inside.retired.places } in
    let forgotten : AreForgotten c.args.least v = rw (← c.self.view_is) at c.requires.forgotten in
    let may : MayMakeLayer v c.args.prefix c.args.entry = rw (← c.self.view_is) at c.requires.may in
    let room = c.in_ok-layer_room.ensures in
    let root_is : c.root_place-place.result.number ≡ border_number c.args.least v = rw (room.retired, room.nodes) at c.root_place-place.ensures.number in
    let version_is : c.root_place-place.result.version ≡ version_in (chosen v.retired.borders c.args.least) v.nodes (fresh_parts true true) = rw (room.retired, room.nodes) at c.root_place-place.ensures.version in
    let left : c.root_place-place.new.retired.places ≡ given_border v.retired c.args.least = ap (λ (p : IdlePlacesView). p.places) c.root_place-place.ensures.given ∙ ap (λ (gone : RetiredPlaces). given_border gone c.args.least) room.retired in
    let tree_is : c.tree_place-tree.result ≡ tree_number c.args.least v = rw (left, room.trees) at c.tree_place-tree.ensures.number in
    let lists : c.tree_place-tree.new.retired.places ≡ given_layer v.retired c.args.least = ap (λ (p : IdlePlacesView). p.places) c.tree_place-tree.ensures.given ∙ ap (λ (gone : RetiredPlaces). given_tree gone c.args.least) left in
    let nodes_are = are_nodes v _ (record { nodes = 0; trees = 0 }) c.args.operation c.args.least c.args.prefix c.args.entry c.self.invariant may forgotten c.put.new.nodes.items _ _ root_is version_is
    (rw (room.nodes, c.root_of.ensures, tree_is) at c.put.ensures.old_place) (rw (room.nodes, c.root_of.ensures, tree_is) at c.put.ensures.new_place) in
    let trees_are = are_trees v _ (record { nodes = 0; trees = 0 }) c.args.operation c.args.least c.args.prefix c.args.entry c.self.invariant may forgotten c.put_tree.new.trees.items _ tree_is
    (rw (room.trees, root_is) at c.put_tree.ensures.old_place) (rw (room.trees, root_is) at c.put_tree.ensures.new_place) in
    rw (← c.self.view_is, nodes_are, trees_are, lists) refl

pub returns-clause-step : goal.returns-clause-step
returns-clause-step c =
    let v : ArenaView = record { nodes = c.self.inside.nodes.items; trees = c.self.inside.trees.items; retired = c.self.inside.retired.places } in
    let forgotten : AreForgotten c.args.least v = rw (← c.self.view_is) at c.requires.forgotten in
    let may : MayMakeLayer v c.args.prefix c.args.entry = rw (← c.self.view_is) at c.requires.may in
    let room = c.in_ok-layer_room.ensures in
    let root_is : c.root_place-place.result.number ≡ border_number c.args.least v = rw (room.retired, room.nodes) at c.root_place-place.ensures.number in
    let version_is : c.root_place-place.result.version ≡ version_in (chosen v.retired.borders c.args.least) v.nodes (fresh_parts true true) = rw (room.retired, room.nodes) at c.root_place-place.ensures.version in
    let left : c.root_place-place.new.retired.places ≡ given_border v.retired c.args.least = ap (λ (p : IdlePlacesView). p.places) c.root_place-place.ensures.given ∙ ap (λ (gone : RetiredPlaces). given_border gone c.args.least) room.retired in
    let tree_is : c.tree_place-tree.result ≡ tree_number c.args.least v = rw (left, room.trees) at c.tree_place-tree.ensures.number in
    let lists : c.tree_place-tree.new.retired.places ≡ given_layer v.retired c.args.least = ap (λ (p : IdlePlacesView). p.places) c.tree_place-tree.ensures.given ∙ ap (λ (gone : RetiredPlaces). given_tree gone c.args.least) left in
    let nodes_are = are_nodes v _ (record { nodes = 0; trees = 0 }) c.args.operation c.args.least c.args.prefix c.args.entry c.self.invariant may forgotten c.put.new.nodes.items _ _ root_is version_is
    (rw (room.nodes, c.root_of.ensures, tree_is) at c.put.ensures.old_place) (rw (room.nodes, c.root_of.ensures, tree_is) at c.put.ensures.new_place) in
    let trees_are = are_trees v _ (record { nodes = 0; trees = 0 }) c.args.operation c.args.least c.args.prefix c.args.entry c.self.invariant may forgotten c.put_tree.new.trees.items _ tree_is
    (rw (room.trees, root_is) at c.put_tree.ensures.old_place) (rw (room.trees, root_is) at c.put_tree.ensures.new_place) in
    rw (← c.self.view_is, nodes_are, trees_are, lists)
    (steps_layer_at v _ (record { nodes = 0; trees = 0 }) c.args.operation c.args.least c.args.prefix c.args.entry c.self.invariant may forgotten)

pub returns-clause-contents : goal.returns-clause-contents
returns-clause-contents c =
    let v : ArenaView = record { nodes = c.self.inside.nodes.items; trees = c.self.inside.trees.items; retired = c.self.inside.retired.places } in
    let forgotten : AreForgotten c.args.least v = rw (← c.self.view_is) at c.requires.forgotten in
    let may : MayMakeLayer v c.args.prefix c.args.entry = rw (← c.self.view_is) at c.requires.may in
    let room = c.in_ok-layer_room.ensures in
    let root_is : c.root_place-place.result.number ≡ border_number c.args.least v = rw (room.retired, room.nodes) at c.root_place-place.ensures.number in
    let version_is : c.root_place-place.result.version ≡ version_in (chosen v.retired.borders c.args.least) v.nodes (fresh_parts true true) = rw (room.retired, room.nodes) at c.root_place-place.ensures.version in
    let left : c.root_place-place.new.retired.places ≡ given_border v.retired c.args.least = ap (λ (p : IdlePlacesView). p.places) c.root_place-place.ensures.given ∙ ap (λ (gone : RetiredPlaces). given_border gone c.args.least) room.retired in
    let tree_is : c.tree_place-tree.result ≡ tree_number c.args.least v = rw (left, room.trees) at c.tree_place-tree.ensures.number in
    let lists : c.tree_place-tree.new.retired.places ≡ given_layer v.retired c.args.least = ap (λ (p : IdlePlacesView). p.places) c.tree_place-tree.ensures.given ∙ ap (λ (gone : RetiredPlaces). given_tree gone c.args.least) left in
    let nodes_are = are_nodes v _ (record { nodes = 0; trees = 0 }) c.args.operation c.args.least c.args.prefix c.args.entry c.self.invariant may forgotten c.put.new.nodes.items _ _ root_is version_is
    (rw (room.nodes, c.root_of.ensures, tree_is) at c.put.ensures.old_place) (rw (room.nodes, c.root_of.ensures, tree_is) at c.put.ensures.new_place) in
    let trees_are = are_trees v _ (record { nodes = 0; trees = 0 }) c.args.operation c.args.least c.args.prefix c.args.entry c.self.invariant may forgotten c.put_tree.new.trees.items _ tree_is
    (rw (room.trees, root_is) at c.put_tree.ensures.old_place) (rw (room.trees, root_is) at c.put_tree.ensures.new_place) in
    rw (← c.self.view_is, nodes_are, trees_are)
    (content_layer_at v _ (record { nodes = 0; trees = 0 }) c.args.operation c.args.least c.args.prefix c.args.entry c.self.invariant may forgotten)
