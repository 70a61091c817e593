-- the invariant of an arena with one tree, by the lists that were made
use Rattle.std.proofs.{Common.{◌≡◌, ◌≤◌, [], ◌∷◌, arith, rules}}
use Rattle.mt_arena.{specs.{Idle.{no_places, rooms_for}, Edits.fresh_root, Accesses.top_tree}, proofs.Start.sound_first}
use Rattle.mt_arena.proofs.arena.Arena.new.Goals as goal

pub invariant_of-result : goal.invariant_of-result
invariant_of-result c =
    let nodes : c.push.new.self.items ≡ fresh_root 0 ∷ [] = search rules in
    let trees : c.push-2.new.self.items ≡ top_tree ∷ [] = search rules in
    let room = c.in_ok-make_room.ensures in
    let retired : c.make_room.new.self.places ≡ no_places = search rules in
    let nodes_room : 1 ≤ (rooms_for c.make_room.new.self.room).nodes = omega (arith, room.nodes) in
    let trees_room : 1 ≤ (rooms_for c.make_room.new.self.room).trees = omega (arith, room.trees) in
    rw (nodes, trees, retired) (sound_first _ nodes_room trees_room)
