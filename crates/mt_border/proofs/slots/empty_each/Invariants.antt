-- what is to come is the rest of it
use Rattle.std.proofs.Common.{◌≡◌, ◌++◌, length, drop}
use Rattle.mt_border.specs.Slots.{emptied}
use Rattle.mt_border.proofs.slots.empty_each.Given as goal

abbrev pub invariant-loop-place : goal.invariant-loop-place
invariant-loop-place l = record {
  left : emptied l.helds (drop l.place (l.order.live ++ l.order.free)) ≡ emptied l.initial.helds l.order.free;
  size : length l.helds ≡ 15;
}
