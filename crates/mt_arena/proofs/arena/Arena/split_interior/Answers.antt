-- The right half of the parent comes into the place that is chosen, or into a new one, for which there is room then.
use Rattle.std.proofs.Common.{refl, sym, ap, ◌∙◌, length, arith}
use Rattle.mt_arena.specs.{Idle.chosen, Given.{AreForgotten, MayRenew}, Arena.ArenaView, Edits.version_in, Several.MaySplitInner}
use Rattle.mt_arena.proofs.{Inserting.{apart_j, is_new}, Giving.{steps_from_same, chosen_inner, inner_out, inner_within, inner_none}}
use Rattle.mt_arena.proofs.PartingAt.{sound_parts_at, steps_parts_at, content_parts_at, are_parts_at}
use Rattle.mt_arena.proofs.arena.Arena.split_interior.Goals as goal

pub inner_place-requires-clause-there : goal.inner_place-requires-clause-there
inner_place-requires-clause-there c =
    let v : ArenaView = record { nodes = c.self.inside.nodes.items; trees = c.self.inside.trees.items; retired = c.self.inside.retired.places } in
    λ p e. (chosen_inner v c.args.least p c.self.invariant.retired e (rw (← c.self.view_is) at c.requires.forgotten)).there

pub inner_place-requires-clause-renews : goal.inner_place-requires-clause-renews
inner_place-requires-clause-renews c =
    let v : ArenaView = record { nodes = c.self.inside.nodes.items; trees = c.self.inside.trees.items; retired = c.self.inside.retired.places } in
    let renews : MayRenew c.args.least v = rw (← c.self.view_is) at c.requires.renews in
    λ p e. renews p (inner_out v c.args.least p e)

pub invariant_of-self : goal.invariant_of-self
invariant_of-self c =
    let room = c.in_err-place.ensures in
    rw (room.nodes, room.trees, room.unchanged_on_err)
    (record { arena = c.self.invariant.arena; retired = c.self.invariant.retired; named = c.self.invariant.named; enough = omega (arith, c.self.invariant.enough, room.no_less); trees_enough = omega (arith, c.self.invariant.trees_enough, room.no_fewer) })

pub part_parent-requires-clause-differ : goal.part_parent-requires-clause-differ
part_parent-requires-clause-differ c =
    apart_j c.self.inside.nodes.items c.args.parent c.args.left c.args.right c.self.invariant.arena.nodes (rw (← c.self.view_is) at c.requires.may).inserts

pub part_parent-requires-clause-missing : goal.part_parent-requires-clause-missing
part_parent-requires-clause-missing c =
    rw c.in_ok-place.ensures.nodes (is_new c.self.inside.nodes.items c.args.parent c.args.left c.args.right c.self.invariant.arena.nodes (rw (← c.self.view_is) at c.requires.may).inserts)

pub part_parent-requires-clause-number : goal.part_parent-requires-clause-number
part_parent-requires-clause-number c =
    let v : ArenaView = record { nodes = c.self.inside.nodes.items; trees = c.self.inside.trees.items; retired = c.self.inside.retired.places } in
    let room = c.in_ok-place.ensures in
    rw room.nodes (omega (arith, room.number, inner_within v c.args.least c.self.invariant.retired (rw (← c.self.view_is) at c.requires.forgotten)))

pub part_parent-requires-clause-room : goal.part_parent-requires-clause-room
part_parent-requires-clause-room c =
    let v : ArenaView = record { nodes = c.self.inside.nodes.items; trees = c.self.inside.trees.items; retired = c.self.inside.retired.places } in
    let room = c.in_ok-place.ensures in
    λ last. room.capacity (inner_none v c.args.least c.self.invariant.retired (rw (← c.self.view_is) at c.requires.forgotten) (sym room.number ∙ last ∙ ap length room.nodes))

pub invariant_of-self-2 : goal.invariant_of-self-2
invariant_of-self-2 c =
    let v : ArenaView = record { nodes = c.self.inside.nodes.items; trees = c.self.inside.trees.items; retired = c.self.inside.retired.places } in
    let may : MaySplitInner v c.args.parent c.args.left c.args.right c.args.operation = rw (← c.self.view_is) at c.requires.may in
    let forgotten : AreForgotten c.args.least v = rw (← c.self.view_is) at c.requires.forgotten in
    let room = c.in_ok-place.ensures in
    let are = are_parts_at v c.part_parent.new.nodes.items c.args.parent c.args.left c.args.right c.args.least c.args.operation _ _ c.self.invariant.arena.nodes c.self.invariant.retired forgotten may.inserts room.number
    (room.version ∙ ap (version_in (chosen v.retired.interiors c.args.least) v.nodes) c.child_interior-fresh.ensures.value) (rw room.nodes at c.part_parent.ensures.old_place) (rw room.nodes at c.part_parent.ensures.new_place) in
    rw (are, room.trees, room.given)
    (sound_parts_at v _ _ c.args.parent c.args.left c.args.right c.args.least c.args.operation c.self.invariant may forgotten (λ none. omega (arith, room.room none, room.few none, ap length room.nodes))
    (omega (arith, c.self.invariant.enough, room.no_less)) (omega (arith, c.self.invariant.trees_enough, room.no_fewer)))

pub returns-in_err-place-clause-step : goal.returns-in_err-place-clause-step
returns-in_err-place-clause-step c =
    let v : ArenaView = record { nodes = c.self.inside.nodes.items; trees = c.self.inside.trees.items; retired = c.self.inside.retired.places } in
    let room = c.in_err-place.ensures in
    rw (← c.self.view_is, room.nodes, room.trees, room.unchanged_on_err) (steps_from_same v c.args.least c.args.operation)

pub returns-clause-is : goal.returns-clause-is
returns-clause-is c =
    let v : ArenaView = record { nodes = c.self.inside.nodes.items; trees = c.self.inside.trees.items; retired = c.self.inside.retired.places } in
    let may : MaySplitInner v c.args.parent c.args.left c.args.right c.args.operation = rw (← c.self.view_is) at c.requires.may in
    let forgotten : AreForgotten c.args.least v = rw (← c.self.view_is) at c.requires.forgotten in
    let room = c.in_ok-place.ensures in
    let are = are_parts_at v c.part_parent.new.nodes.items c.args.parent c.args.left c.args.right c.args.least c.args.operation _ _ c.self.invariant.arena.nodes c.self.invariant.retired forgotten may.inserts room.number
    (room.version ∙ ap (version_in (chosen v.retired.interiors c.args.least) v.nodes) c.child_interior-fresh.ensures.value) (rw room.nodes at c.part_parent.ensures.old_place) (rw room.nodes at c.part_parent.ensures.new_place) in
    rw (← c.self.view_is, are, room.trees, room.given) refl

pub returns-clause-step : goal.returns-clause-step
returns-clause-step c =
    let v : ArenaView = record { nodes = c.self.inside.nodes.items; trees = c.self.inside.trees.items; retired = c.self.inside.retired.places } in
    let may : MaySplitInner v c.args.parent c.args.left c.args.right c.args.operation = rw (← c.self.view_is) at c.requires.may in
    let forgotten : AreForgotten c.args.least v = rw (← c.self.view_is) at c.requires.forgotten in
    let room = c.in_ok-place.ensures in
    let are = are_parts_at v c.part_parent.new.nodes.items c.args.parent c.args.left c.args.right c.args.least c.args.operation _ _ c.self.invariant.arena.nodes c.self.invariant.retired forgotten may.inserts room.number
    (room.version ∙ ap (version_in (chosen v.retired.interiors c.args.least) v.nodes) c.child_interior-fresh.ensures.value) (rw room.nodes at c.part_parent.ensures.old_place) (rw room.nodes at c.part_parent.ensures.new_place) in
    rw (← c.self.view_is, are, room.trees, room.given)
    (steps_parts_at v _ (record { nodes = 0; trees = 0 }) c.args.parent c.args.left c.args.right c.args.least c.args.operation c.self.invariant may forgotten)

pub returns-clause-contents : goal.returns-clause-contents
returns-clause-contents c =
    let v : ArenaView = record { nodes = c.self.inside.nodes.items; trees = c.self.inside.trees.items; retired = c.self.inside.retired.places } in
    let may : MaySplitInner v c.args.parent c.args.left c.args.right c.args.operation = rw (← c.self.view_is) at c.requires.may in
    let forgotten : AreForgotten c.args.least v = rw (← c.self.view_is) at c.requires.forgotten in
    let room = c.in_ok-place.ensures in
    let are = are_parts_at v c.part_parent.new.nodes.items c.args.parent c.args.left c.args.right c.args.least c.args.operation _ _ c.self.invariant.arena.nodes c.self.invariant.retired forgotten may.inserts room.number
    (room.version ∙ ap (version_in (chosen v.retired.interiors c.args.least) v.nodes) c.child_interior-fresh.ensures.value) (rw room.nodes at c.part_parent.ensures.old_place) (rw room.nodes at c.part_parent.ensures.new_place) in
    rw (← c.self.view_is, are, room.trees)
    (content_parts_at v _ (record { nodes = 0; trees = 0 }) c.args.parent c.args.left c.args.right c.args.least c.args.operation c.self.invariant may forgotten)
