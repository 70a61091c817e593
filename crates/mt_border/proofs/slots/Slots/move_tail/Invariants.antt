-- those before the first place stay, those that were moved stand on the right, and the others are still behind
use Rattle.std.proofs.Common.{◌≡◌, false, ◌+◌, ◌++◌, length, take, drop}
use Rattle.mt_border.specs.Slots.{listed, first_slots, fifteen_of, IsSlotted}
use Rattle.mt_border.proofs.slots.Slots.move_tail.Given as goal

abbrev pub invariant-loop-place : goal.invariant-loop-place
invariant-loop-place l = record {
  left : listed l.self ≡ take l.keep (listed l.initial.self) ++ drop (l.keep + l.place) (listed l.initial.self);
  right : listed l.right ++ drop (l.keep + l.place) (listed l.initial.self) ≡ drop l.keep (listed l.initial.self);
  len : length (listed l.right) ≡ l.place;
  order : l.right.order ≡ first_slots l.place;
  unflagged : l.right.dropped ≡ fifteen_of false;
  slotted : IsSlotted l.self;
  slotted_right : IsSlotted l.right;
}
