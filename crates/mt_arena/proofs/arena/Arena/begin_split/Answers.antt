-- The right half comes into the place that waits longest, or a new one is made for it.
use Rattle.std.proofs.Common.{◌≡◌, length, true, false, sym, ap, subst, ◌∙◌, arith}
use Rattle.mt_version.specs.{Parts.Parts, Changes.{CanRenew, renewed}}
use Rattle.mt_arena.specs.{NodeView.{NodeView, node_at}, Arena.ArenaView, Idle.{Rooms, IdlePlacesView, rooms_for}, Edits.{splitting, fresh_half, again_half}}
use Rattle.mt_arena.proofs.{Pairs.read, Growing.{sound_half, step_half, content_half}}
use Rattle.mt_arena.proofs.Giving.{GivesHalf, gives_half, place_there, place_kind, place_renews, sound_again, content_half_again, steps_again, is_again, steps_from_none}
use Rattle.mt_arena.proofs.arena.Arena.begin_split.Goals as goal

pub index-requires : goal.index-requires
index-requires c =
    let v : ArenaView = record { nodes = c.self.inside.nodes.items; trees = c.self.inside.trees.items; retired = c.self.inside.retired.places } in
    let room : Rooms = rooms_for c.self.inside.retired.room in
    let g : GivesHalf v room c.args.left c.in-Some.place c.args.low c.args.least c.args.operation =
    gives_half v c.args.self.now room c.args.left c.in-Some.place c.args.low c.args.least c.args.operation c.self.view_is c.self.invariant (sym c.in-Some.ensures.chosen)
    c.requires.held c.requires.live c.requires.border c.requires.range c.requires.begins c.requires.mine c.requires.forgotten c.requires.renews in
    let there_is = place_there v room c.args.left c.in-Some.place c.args.low c.args.least c.args.operation g in
    omega (arith, there_is)

pub renewed-version-requires : goal.renewed-version-requires
renewed-version-requires c =
    let v : ArenaView = record { nodes = c.self.inside.nodes.items; trees = c.self.inside.trees.items; retired = c.self.inside.retired.places } in
    let room : Rooms = rooms_for c.self.inside.retired.room in
    let g : GivesHalf v room c.args.left c.in-Some.place c.args.low c.args.least c.args.operation =
    gives_half v c.args.self.now room c.args.left c.in-Some.place c.args.low c.args.least c.args.operation c.self.view_is c.self.invariant (sym c.in-Some.ensures.chosen)
    c.requires.held c.requires.live c.requires.border c.requires.range c.requires.begins c.requires.mine c.requires.forgotten c.requires.renews in
    let there_is = place_there v room c.args.left c.in-Some.place c.args.low c.args.least c.args.operation g in
    let version_is : c.version.result ≡ (node_at v.nodes c.in-Some.place).version =
    c.version.ensures ∙ ap (λ (n : NodeView). n.version) (read v.nodes c.in-Some.place c.index.result.now there_is c.index.ensures) in
    subst CanRenew (sym version_is) (place_renews v room c.args.left c.in-Some.place c.args.low c.args.least c.args.operation g)

pub half-half-requires-clause-kind : goal.half-half-requires-clause-kind
half-half-requires-clause-kind c =
    let v : ArenaView = record { nodes = c.self.inside.nodes.items; trees = c.self.inside.trees.items; retired = c.self.inside.retired.places } in
    let room : Rooms = rooms_for c.self.inside.retired.room in
    let g : GivesHalf v room c.args.left c.in-Some.place c.args.low c.args.least c.args.operation =
    gives_half v c.args.self.now room c.args.left c.in-Some.place c.args.low c.args.least c.args.operation c.self.view_is c.self.invariant (sym c.in-Some.ensures.chosen)
    c.requires.held c.requires.live c.requires.border c.requires.range c.requires.begins c.requires.mine c.requires.forgotten c.requires.renews in
    let there_is = place_there v room c.args.left c.in-Some.place c.args.low c.args.least c.args.operation g in
    let version_is : c.version.result ≡ (node_at v.nodes c.in-Some.place).version =
    c.version.ensures ∙ ap (λ (n : NodeView). n.version) (read v.nodes c.in-Some.place c.index.result.now there_is c.index.ensures) in
    ap (λ (w : Parts). w.border) (c.renewed-version.ensures.value ∙ ap (λ (w : Parts). renewed w false) version_is) ∙ place_kind v room c.args.left c.in-Some.place c.args.low c.args.least c.args.operation g

pub index_mut-requires-in-Some : goal.index_mut-requires-in-Some
index_mut-requires-in-Some c =
    let v : ArenaView = record { nodes = c.self.inside.nodes.items; trees = c.self.inside.trees.items; retired = c.self.inside.retired.places } in
    let room : Rooms = rooms_for c.self.inside.retired.room in
    let g : GivesHalf v room c.args.left c.in-Some.place c.args.low c.args.least c.args.operation =
    gives_half v c.args.self.now room c.args.left c.in-Some.place c.args.low c.args.least c.args.operation c.self.view_is c.self.invariant (sym c.in-Some.ensures.chosen)
    c.requires.held c.requires.live c.requires.border c.requires.range c.requires.begins c.requires.mine c.requires.forgotten c.requires.renews in
    let there_is = place_there v room c.args.left c.in-Some.place c.args.low c.args.least c.args.operation g in
    omega (arith, there_is)

pub invariant_of-self : goal.invariant_of-self
invariant_of-self c =
    let v : ArenaView = record { nodes = c.self.inside.nodes.items; trees = c.self.inside.trees.items; retired = c.self.inside.retired.places } in
    let room : Rooms = rooms_for c.self.inside.retired.room in
    let g : GivesHalf v room c.args.left c.in-Some.place c.args.low c.args.least c.args.operation =
    gives_half v c.args.self.now room c.args.left c.in-Some.place c.args.low c.args.least c.args.operation c.self.view_is c.self.invariant (sym c.in-Some.ensures.chosen)
    c.requires.held c.requires.live c.requires.border c.requires.range c.requires.begins c.requires.mine c.requires.forgotten c.requires.renews in
    let there_is = place_there v room c.args.left c.in-Some.place c.args.low c.args.least c.args.operation g in
    let version_is : c.version.result ≡ (node_at v.nodes c.in-Some.place).version =
    c.version.ensures ∙ ap (λ (n : NodeView). n.version) (read v.nodes c.in-Some.place c.index.result.now there_is c.index.ensures) in
    let x : NodeView = node_at v.nodes c.args.left in
    let left_is : c.index-in-Some.result.now ≡ x = read v.nodes c.args.left c.index-in-Some.result.now g.holds.there c.index-in-Some.ensures in
    let mark_is : c.mark_splitting.new.self ≡ splitting x =
    c.mark_splitting.ensures ∙ ap (λ (n : NodeView). splitting n) (read v.nodes c.args.left c.index_mut.result.now g.holds.there c.index_mut.ensures.value) in
    let half_is : c.half-half.result ≡ again_half (node_at v.nodes c.in-Some.place) x c.args.left c.args.low c.args.operation =
    c.half-half.ensures
    ∙ ap (λ (n : NodeView). record (fresh_half n c.args.left c.args.low c.args.operation) { version = record c.renewed-version.result { locked = true; splitting = true } }) left_is
    ∙ ap (λ (w : Parts). record (fresh_half x c.args.left c.args.low c.args.operation) { version = record w { locked = true; splitting = true } })
    (c.renewed-version.ensures.value ∙ ap (λ (w : Parts). renewed w false) version_is) in
    rw (half_is, mark_is, c.give_border.ensures.left) (sound_again v room c.args.left c.in-Some.place c.args.low c.args.least c.args.operation g)

pub returns-in-Some-clause-is : goal.returns-in-Some-clause-is
returns-in-Some-clause-is c =
    let v : ArenaView = record { nodes = c.self.inside.nodes.items; trees = c.self.inside.trees.items; retired = c.self.inside.retired.places } in
    let room : Rooms = rooms_for c.self.inside.retired.room in
    let g : GivesHalf v room c.args.left c.in-Some.place c.args.low c.args.least c.args.operation =
    gives_half v c.args.self.now room c.args.left c.in-Some.place c.args.low c.args.least c.args.operation c.self.view_is c.self.invariant (sym c.in-Some.ensures.chosen)
    c.requires.held c.requires.live c.requires.border c.requires.range c.requires.begins c.requires.mine c.requires.forgotten c.requires.renews in
    let there_is = place_there v room c.args.left c.in-Some.place c.args.low c.args.least c.args.operation g in
    let version_is : c.version.result ≡ (node_at v.nodes c.in-Some.place).version =
    c.version.ensures ∙ ap (λ (n : NodeView). n.version) (read v.nodes c.in-Some.place c.index.result.now there_is c.index.ensures) in
    let x : NodeView = node_at v.nodes c.args.left in
    let left_is : c.index-in-Some.result.now ≡ x = read v.nodes c.args.left c.index-in-Some.result.now g.holds.there c.index-in-Some.ensures in
    let mark_is : c.mark_splitting.new.self ≡ splitting x =
    c.mark_splitting.ensures ∙ ap (λ (n : NodeView). splitting n) (read v.nodes c.args.left c.index_mut.result.now g.holds.there c.index_mut.ensures.value) in
    let half_is : c.half-half.result ≡ again_half (node_at v.nodes c.in-Some.place) x c.args.left c.args.low c.args.operation =
    c.half-half.ensures
    ∙ ap (λ (n : NodeView). record (fresh_half n c.args.left c.args.low c.args.operation) { version = record c.renewed-version.result { locked = true; splitting = true } }) left_is
    ∙ ap (λ (w : Parts). record (fresh_half x c.args.left c.args.low c.args.operation) { version = record w { locked = true; splitting = true } })
    (c.renewed-version.ensures.value ∙ ap (λ (w : Parts). renewed w false) version_is) in
    rw (← c.self.view_is, half_is, mark_is, c.give_border.ensures.left) (is_again v room c.args.left c.in-Some.place c.args.low c.args.least c.args.operation g)

pub returns-in-Some-clause-step : goal.returns-in-Some-clause-step
returns-in-Some-clause-step c =
    let v : ArenaView = record { nodes = c.self.inside.nodes.items; trees = c.self.inside.trees.items; retired = c.self.inside.retired.places } in
    let room : Rooms = rooms_for c.self.inside.retired.room in
    let g : GivesHalf v room c.args.left c.in-Some.place c.args.low c.args.least c.args.operation =
    gives_half v c.args.self.now room c.args.left c.in-Some.place c.args.low c.args.least c.args.operation c.self.view_is c.self.invariant (sym c.in-Some.ensures.chosen)
    c.requires.held c.requires.live c.requires.border c.requires.range c.requires.begins c.requires.mine c.requires.forgotten c.requires.renews in
    let there_is = place_there v room c.args.left c.in-Some.place c.args.low c.args.least c.args.operation g in
    let version_is : c.version.result ≡ (node_at v.nodes c.in-Some.place).version =
    c.version.ensures ∙ ap (λ (n : NodeView). n.version) (read v.nodes c.in-Some.place c.index.result.now there_is c.index.ensures) in
    let x : NodeView = node_at v.nodes c.args.left in
    let left_is : c.index-in-Some.result.now ≡ x = read v.nodes c.args.left c.index-in-Some.result.now g.holds.there c.index-in-Some.ensures in
    let mark_is : c.mark_splitting.new.self ≡ splitting x =
    c.mark_splitting.ensures ∙ ap (λ (n : NodeView). splitting n) (read v.nodes c.args.left c.index_mut.result.now g.holds.there c.index_mut.ensures.value) in
    let half_is : c.half-half.result ≡ again_half (node_at v.nodes c.in-Some.place) x c.args.left c.args.low c.args.operation =
    c.half-half.ensures
    ∙ ap (λ (n : NodeView). record (fresh_half n c.args.left c.args.low c.args.operation) { version = record c.renewed-version.result { locked = true; splitting = true } }) left_is
    ∙ ap (λ (w : Parts). record (fresh_half x c.args.left c.args.low c.args.operation) { version = record w { locked = true; splitting = true } })
    (c.renewed-version.ensures.value ∙ ap (λ (w : Parts). renewed w false) version_is) in
    rw (← c.self.view_is, half_is, mark_is, c.give_border.ensures.left) (steps_again v room c.args.left c.in-Some.place c.args.low c.args.least c.args.operation g)

pub returns-in-Some-clause-contents : goal.returns-in-Some-clause-contents
returns-in-Some-clause-contents c =
    let v : ArenaView = record { nodes = c.self.inside.nodes.items; trees = c.self.inside.trees.items; retired = c.self.inside.retired.places } in
    let room : Rooms = rooms_for c.self.inside.retired.room in
    let g : GivesHalf v room c.args.left c.in-Some.place c.args.low c.args.least c.args.operation =
    gives_half v c.args.self.now room c.args.left c.in-Some.place c.args.low c.args.least c.args.operation c.self.view_is c.self.invariant (sym c.in-Some.ensures.chosen)
    c.requires.held c.requires.live c.requires.border c.requires.range c.requires.begins c.requires.mine c.requires.forgotten c.requires.renews in
    let there_is = place_there v room c.args.left c.in-Some.place c.args.low c.args.least c.args.operation g in
    let version_is : c.version.result ≡ (node_at v.nodes c.in-Some.place).version =
    c.version.ensures ∙ ap (λ (n : NodeView). n.version) (read v.nodes c.in-Some.place c.index.result.now there_is c.index.ensures) in
    let x : NodeView = node_at v.nodes c.args.left in
    let left_is : c.index-in-Some.result.now ≡ x = read v.nodes c.args.left c.index-in-Some.result.now g.holds.there c.index-in-Some.ensures in
    let mark_is : c.mark_splitting.new.self ≡ splitting x =
    c.mark_splitting.ensures ∙ ap (λ (n : NodeView). splitting n) (read v.nodes c.args.left c.index_mut.result.now g.holds.there c.index_mut.ensures.value) in
    let half_is : c.half-half.result ≡ again_half (node_at v.nodes c.in-Some.place) x c.args.left c.args.low c.args.operation =
    c.half-half.ensures
    ∙ ap (λ (n : NodeView). record (fresh_half n c.args.left c.args.low c.args.operation) { version = record c.renewed-version.result { locked = true; splitting = true } }) left_is
    ∙ ap (λ (w : Parts). record (fresh_half x c.args.left c.args.low c.args.operation) { version = record w { locked = true; splitting = true } })
    (c.renewed-version.ensures.value ∙ ap (λ (w : Parts). renewed w false) version_is) in
    rw (← c.self.view_is, half_is, mark_is) (content_half_again v room c.args.left c.in-Some.place c.args.low c.args.least c.args.operation g)

pub invariant_of-self-in-None : goal.invariant_of-self-in-None
invariant_of-self-in-None c =
    let v : ArenaView = record { nodes = c.self.inside.nodes.items; trees = c.self.inside.trees.items; retired = c.self.inside.retired.places } in
    let held = rw (← c.self.view_is) at c.requires.held in
    let live = rw (← c.self.view_is) at c.requires.live in
    let level = rw (← c.self.view_is) at c.requires.border in
    let room = c.in_ok-make_room-in-None.ensures in
    let same = c.in-None.ensures.none in
    let x : NodeView = node_at v.nodes c.args.left in
    let left_is : c.index-in-None.result.now ≡ x = read v.nodes c.args.left c.index-in-None.result.now held.there (rw room.nodes at c.index-in-None.ensures) in
    let mark_is : c.mark_splitting-in-None.new.self ≡ splitting x =
    c.mark_splitting-in-None.ensures ∙ ap (λ (n : NodeView). splitting n) (read v.nodes c.args.left c.index_mut-in-None.result.now held.there (rw room.nodes at c.index_mut-in-None.ensures.value)) in
    let half_is : c.half-half-in-None.result ≡ fresh_half x c.args.left c.args.low c.args.operation =
    c.half-half-in-None.ensures
    ∙ ap (λ (n : NodeView). record (fresh_half n c.args.left c.args.low c.args.operation) { version = record c.child_border.result { locked = true; splitting = true } }) left_is
    ∙ ap (λ (w : Parts). record (fresh_half x c.args.left c.args.low c.args.operation) { version = record w { locked = true; splitting = true } }) c.child_border.ensures.value in
    let trees_room = ap (λ (q : IdlePlacesView). q.room.trees) same in
    rw (c.push_reserved.ensures.items, half_is, mark_is, room.nodes, room.trees, room.retired, same)
    (sound_half v.nodes c.args.left c.args.low c.args.operation held.there held.holder live level v.trees v.retired _ _ c.self.invariant
    (omega (arith, room.room, room.few_nodes, ap length room.nodes)) (omega (arith, c.self.invariant.trees_enough, room.no_fewer, trees_room)) (rw (← c.self.view_is) at c.requires.range) (rw (← c.self.view_is) at c.requires.begins))

pub returns-in_ok-make_room-in-None-clause-step : goal.returns-in_ok-make_room-in-None-clause-step
returns-in_ok-make_room-in-None-clause-step c =
    let v : ArenaView = record { nodes = c.self.inside.nodes.items; trees = c.self.inside.trees.items; retired = c.self.inside.retired.places } in
    let held = rw (← c.self.view_is) at c.requires.held in
    let live = rw (← c.self.view_is) at c.requires.live in
    let level = rw (← c.self.view_is) at c.requires.border in
    let room = c.in_ok-make_room-in-None.ensures in
    let same = c.in-None.ensures.none in
    let x : NodeView = node_at v.nodes c.args.left in
    let left_is : c.index-in-None.result.now ≡ x = read v.nodes c.args.left c.index-in-None.result.now held.there (rw room.nodes at c.index-in-None.ensures) in
    let mark_is : c.mark_splitting-in-None.new.self ≡ splitting x =
    c.mark_splitting-in-None.ensures ∙ ap (λ (n : NodeView). splitting n) (read v.nodes c.args.left c.index_mut-in-None.result.now held.there (rw room.nodes at c.index_mut-in-None.ensures.value)) in
    let half_is : c.half-half-in-None.result ≡ fresh_half x c.args.left c.args.low c.args.operation =
    c.half-half-in-None.ensures
    ∙ ap (λ (n : NodeView). record (fresh_half n c.args.left c.args.low c.args.operation) { version = record c.child_border.result { locked = true; splitting = true } }) left_is
    ∙ ap (λ (w : Parts). record (fresh_half x c.args.left c.args.low c.args.operation) { version = record w { locked = true; splitting = true } }) c.child_border.ensures.value in
    rw (← c.self.view_is, c.push_reserved.ensures.items, half_is, mark_is, room.nodes, room.trees, room.retired, same)
    (steps_from_none c.args.least c.args.operation v _ (step_half v _ c.args.left c.args.low c.args.operation held.there held.holder live level c.self.invariant (rw (← c.self.view_is) at c.requires.mine)))

pub returns-in_ok-make_room-in-None-clause-contents : goal.returns-in_ok-make_room-in-None-clause-contents
returns-in_ok-make_room-in-None-clause-contents c =
    let v : ArenaView = record { nodes = c.self.inside.nodes.items; trees = c.self.inside.trees.items; retired = c.self.inside.retired.places } in
    let held = rw (← c.self.view_is) at c.requires.held in
    let live = rw (← c.self.view_is) at c.requires.live in
    let level = rw (← c.self.view_is) at c.requires.border in
    let room = c.in_ok-make_room-in-None.ensures in
    let same = c.in-None.ensures.none in
    let x : NodeView = node_at v.nodes c.args.left in
    let left_is : c.index-in-None.result.now ≡ x = read v.nodes c.args.left c.index-in-None.result.now held.there (rw room.nodes at c.index-in-None.ensures) in
    let mark_is : c.mark_splitting-in-None.new.self ≡ splitting x =
    c.mark_splitting-in-None.ensures ∙ ap (λ (n : NodeView). splitting n) (read v.nodes c.args.left c.index_mut-in-None.result.now held.there (rw room.nodes at c.index_mut-in-None.ensures.value)) in
    let half_is : c.half-half-in-None.result ≡ fresh_half x c.args.left c.args.low c.args.operation =
    c.half-half-in-None.ensures
    ∙ ap (λ (n : NodeView). record (fresh_half n c.args.left c.args.low c.args.operation) { version = record c.child_border.result { locked = true; splitting = true } }) left_is
    ∙ ap (λ (w : Parts). record (fresh_half x c.args.left c.args.low c.args.operation) { version = record w { locked = true; splitting = true } }) c.child_border.ensures.value in
    rw (← c.self.view_is, c.push_reserved.ensures.items, half_is, mark_is, room.nodes, room.trees)
    (content_half v.nodes c.args.left c.args.low c.args.operation held.there held.holder live level v.trees)
