-- the right half has a slot, since the cut is no nearer to the end than three
use Rattle.std.proofs.{Common.{◌≡◌, length, ap, arith, rules}, lemmas.List.length-append}
use Rattle.mt_border.{specs.Node.{Node, entries_of}, proofs.ContentsEdits.length-publish}
use Rattle.mt_arena.proofs.node.Node.split.Goals.{in-Some, in-None}
use Rattle.mt_arena.proofs.node.Node.split.Goals as goal

pub returns-clause-some_right : goal.returns-clause-some_right
returns-clause-some_right c =
    let half = ap (λ (n : Node). length (entries_of n)) c.hand_over.ensures.right in
    elim c.match-entry.branch [
      | in-Some w ↦
          let left = entries_of c.in-Leaf.left in
          let full : length left ≡ 15 = search rules in
          let is = w.split_into.ensures in
          omega (
            arith,
            half,
            ap (λ (n : Node). length (entries_of n)) w.half-is,
            ap length is.parted.joined,
            length-append (entries_of w.split_into.new.self) (entries_of w.split_into.new.right),
            length-publish left w.in-Some.entry,
            full,
            is.cut.at_most,
          )
      | in-None w ↦ omega (arith, half, ap (λ (n : Node). length (entries_of n)) w.half-is, w.split_without.ensures.two_on_the_right)
    ]
