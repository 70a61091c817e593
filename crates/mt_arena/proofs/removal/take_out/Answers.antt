use Rattle.std.proofs.{Common.{◌≡◌, ℕ, List, length, set, ap, sym, ◌∙◌, arith}, lemmas.List.length-set}
use Rattle.mt_interior.specs.Places.{place_of}
use Rattle.mt_arena.{specs.{NodeView.{NodeView, node_at}, Edits.{inserting, retired}, Unlinks.{joined, without_child}}, proofs.Pairs.{read, there}}
use Rattle.mt_arena.proofs.removal.take_out.Goals as goal

pub returns : goal.returns
returns c =
    let xs : List NodeView = c.args.nodes.now.items in
    let i : ℕ = c.args.left in
    let j : ℕ = c.args.node in
    let q : ℕ = c.args.parent in
    let x : NodeView = node_at xs j in
    let low : c.low-low.result ≡ x.low = c.low-low.ensures ∙ ap (λ (n : NodeView). n.low) (read xs j c.index.result.now c.requires.node_there c.index.ensures) in
    let high : c.high-high.result ≡ x.high = c.high-high.ensures ∙ ap (λ (n : NodeView). n.high) (read xs j c.index-2.result.now c.requires.node_there c.index-2.ensures) in
    let reach : c.reach-reach.result ≡ x.reach = c.reach-reach.ensures ∙ ap (λ (n : NodeView). n.reach) (read xs j c.index-3.result.now c.requires.node_there c.index-3.ensures) in
    let next : c.next_number-next.result ≡ x.next = c.next_number-next.ensures ∙ ap (λ (n : NodeView). n.next) (read xs j c.index-4.result.now c.requires.node_there c.index-4.ensures) in
    let left : c.index_mut.result.now ≡ node_at xs i = read xs i c.index_mut.result.now c.requires.left_there c.index_mut.ensures.value in
    let ys : List NodeView = set xs i c.extend.new.self in
    let size : length ys ≡ length xs = length-set xs i c.extend.new.self in
    let node : c.index_mut-2.result.now ≡ x = read ys j c.index_mut-2.result.now (omega (arith, size, c.requires.node_there)) c.index_mut-2.ensures.value ∙ there xs i j c.extend.new.self (λ e. c.requires.differ (sym e)) in
    let us : List NodeView = set ys j c.retire.new.self in
    let size_us : length us ≡ length xs = length-set ys j c.retire.new.self ∙ size in
    let parent : c.index_mut-3.result.now ≡ node_at xs q =
    read us q c.index_mut-3.result.now (omega (arith, size_us, c.requires.there)) c.index_mut-3.ensures.value
    ∙ there ys j q c.retire.new.self (λ e. c.requires.differ_node (sym e))
    ∙ there xs i q c.extend.new.self (λ e. c.requires.differ_left (sym e)) in
    let joined_is : c.extend.new.self ≡ joined (node_at xs i) x = c.extend.ensures ∙ (λ a. record (left a) { high = high a; reach = reach a; next = next a }) in
    let retired_is : c.retire.new.self ≡ retired x = c.retire.ensures ∙ ap retired node in
    let without_is : c.remove_child.new.self ≡ without_child (inserting (node_at xs q)) (place_of (node_at xs q).separators x.low) =
    c.remove_child.ensures ∙ (λ a. without_child (inserting (parent a)) (place_of (parent a).separators (low a))) in
    (λ a. set (set (set xs i (joined_is a)) j (retired_is a)) q (without_is a))
