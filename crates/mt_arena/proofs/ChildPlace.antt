-- A child's place is where its low fence belongs among its parent's separators: for the law of that name and `Unlinking`.
use Rattle.std.proofs.Common.{◌≡◌, ℕ, ◌+◌, ◌<◌, List, length, get_or, false, arith}
use Rattle.mt_interior.{specs.Places.place_of, proofs.PlaceLemmas.place_of-between}
use Rattle.mt_arena.{specs.{NodeView.{NodeView, node_at}, Nodes.{AreNodes, IsChild}}, proofs.Ranges.{not_empty, length_bounds, separators_rise}}

-- a child of a live node stands at the place where its low fence belongs among the separators
pub child_place : (nodes : List NodeView) (q k a : ℕ) → AreNodes nodes → q < length nodes → k < length nodes
    → (node_at nodes q).version.deleted ≡ false → a < length (node_at nodes q).children → get_or (node_at nodes q).children a 0 ≡ k
    → place_of (node_at nodes q).separators (node_at nodes k).low ≡ a
child_place nodes q k a are lq lk live inside is =
    let p = node_at nodes q in
    let x = node_at nodes k in
    let fit = (are.each q lq).children in
    let rise = fit.rise (not_empty p.children a inside) in
    let child : IsChild p a x = (are.pairs q k lq lk).child a inside is live in
    place_of-between p.low p.separators p.high x.low a (separators_rise p.low p.separators p.high rise) (omega (arith, fit.interior.between, inside))
    (omega (arith, child.low), omega (arith, child.low, rise a (a + 1) (omega arith) (omega (arith, length_bounds p, fit.interior.between, inside))))
