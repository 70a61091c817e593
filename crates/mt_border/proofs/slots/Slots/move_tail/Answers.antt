-- the entry that is moved leaves the others in their order
use Rattle.std.proofs.{Common.{◌≡◌, ◌+◌, ◌++◌, ◌<◌, length, drop, ap, sym, refl, ◌∙◌, arith}, lemmas.List.take-append-drop, lemmas.List.Edits.length-insert}
use Rattle.mt_order.specs.Places.{order_with}
use Rattle.mt_border.{specs.Slots.{Slotted, listed}, proofs.Slotting.{moved_left, moved_right, next_first}}
use Rattle.mt_border.proofs.slots.Slots.move_tail.Goals as goal

pub loop-place-init : goal.loop-place-init
loop-place-init c =
    let es = listed c.args.self.now in
    let empty = ap listed c.requires.empty in
    let first : c.len-place.result ≡ 0 = omega (arith, c.len-place.ensures.value, ap length empty) in
    let none : c.args.keep + c.len-place.result ≡ c.args.keep = omega (arith, first) in
    record {
      left = rw none (sym (take-append-drop c.args.keep es));
      right = rw (none, empty) refl;
      len = sym c.len-place.ensures.value;
      order = rw (first, c.requires.empty) refl;
      unflagged = rw (c.requires.empty) refl;
      slotted = c.len.ensures.slotted;
      slotted_right = c.len-place.ensures.slotted;
    }

pub loop-place-preserved : goal.loop-place-preserved
loop-place-preserved c =
    let es = listed c.args.self.now in
    let was = c.loop-place.invariant in
    let left = listed c.loop-place.self in
    let right = listed c.loop-place.right in
    let e = c.remove-entry.result in
    let within : c.args.keep + c.loop-place.place < length es = omega (arith, c.loop-place-test.true, c.len.ensures.value) in
    let below : c.loop-place.place < 15 = omega (arith, within, c.requires.few) in
    record {
      left = c.remove-entry.ensures.entries ∙ moved_left es left right c.args.keep c.loop-place.place e within was.left was.right was.len c.remove-entry.ensures.value;
      right = ap (λ xs. xs ++ drop (c.args.keep + (c.loop-place.place + 1)) es) c.insert.ensures.entries
          ∙ moved_right es left right c.args.keep c.loop-place.place e within was.left was.right was.len c.remove-entry.ensures.value;
      len = ap length c.insert.ensures.entries ∙ length-insert right c.loop-place.place e (omega (arith, was.len)) ∙ ap (λ n. n + 1) was.len;
      order = ap (λ (s : Slotted). s.order) c.insert.ensures.slots ∙ ap (λ o. order_with o c.loop-place.place) was.order ∙ next_first c.loop-place.place below;
      unflagged = ap (λ (s : Slotted). s.dropped) c.insert.ensures.slots ∙ was.unflagged;
      slotted = c.remove-entry.ensures.slotted;
      slotted_right = c.insert.ensures.slotted;
    }
