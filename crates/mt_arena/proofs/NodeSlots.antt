-- What a border node shows of which one slot holds something else, or is live no more: for the calls of a node that take a slot.
use Rattle.std.proofs.Common.{◌≡◌, ℕ, ◌<◌, ◌≤◌, List, [], ◌∷◌, length, get_or, set, true, Option, sym, ap, ◌∙◌, arith}
use Rattle.std.{proofs.lemmas.List.{length-map}, specs.List.remove}
use Rattle.mt_slices.specs.declared.mark.Mark.{Mark}
use Rattle.mt_order.{specs.Places.{place_of_slot, order_without}, proofs.Once.slot_there}
use Rattle.mt_border.specs.{declared.entry.Entry.Entry, Held.Held, Rows.entries_in, Entries.{replaced, without}}
use Rattle.mt_border.specs.{Slots.{Slotted, held_in, helds_of, listed}, Node.{Node as BorderNode, entries_of, entry_at, IsLive, Rewrites, place_at as place_in}}
use Rattle.mt_arena.specs.{NodeView.{NodeView, border_view}, Layers.slot_at, Edits.{with_slots, cells_holding, cells_without}, Layering.with_held}

-- no more entries than what is held
few_rows : (slices : List ℕ) (marks : List Mark) (helds : List Held) → length (entries_in slices marks helds) ≤ length helds
few_rows [] marks helds = omega arith
few_rows (s ∷ slices) [] helds = omega arith
few_rows (s ∷ slices) (m ∷ marks) [] = omega arith
few_rows (s ∷ slices) (m ∷ marks) (h ∷ helds) = let rest = few_rows slices marks helds in omega (arith, rest)

-- the slot of the place of a live slot is that slot
slot_of_place : (s : Slotted) (slot : ℕ) → place_of_slot s.order.live slot < length (listed s) → get_or s.order.live (place_of_slot s.order.live slot) 0 ≡ slot
slot_of_place s slot live =
    let few = few_rows s.slices s.marks (helds_of s.helds s.order.live) in
    slot_there s.order.live slot (omega (arith, live, few, length-map s.order.live (held_in s.helds)))

module _ (b d : BorderNode) (tree level : ℕ) (reach holder : Option ℕ) (slot : ℕ) (live : IsLive b slot) where
  abbrev n : NodeView
  n = border_view b tree level reach holder

  abbrev place : ℕ
  place = place_in b slot

  slot_is : get_or b.slots.order.live place 0 ≡ slot
  slot_is = slot_of_place b.slots slot live

  -- its entries and its cells are other ones, and the rest is as it was
  shown_with : (es : List Entry) (cells : Slotted) → d ≡ record b { slots = d.slots } → entries_of d ≡ es → d.slots ≡ cells
      → border_view d tree level reach holder ≡ with_slots n es cells
  shown_with es cells rest entries slots =
      ap (λ (x : BorderNode). border_view x tree level reach holder) rest
      ∙ ap (λ (xs : List Entry). with_slots n xs d.slots) entries
      ∙ ap (λ (c : Slotted). with_slots n es c) slots

  pub shown_held : (held : Held) → Rewrites b d slot held → border_view d tree level reach holder ≡ with_held n place held
  shown_held held r =
      shown_with (replaced n.slots (record (slot_at n place) { held = held })) (cells_holding b.slots place held) r.rest r.entries
      (r.helds ∙ ap (λ (k : ℕ). record b.slots { helds = set b.slots.helds k held }) (sym slot_is))

  pub shown_let_go : entries_of d ≡ without (entries_of b) (entry_at b slot)
      → d.slots ≡ record b.slots { slices = remove b.slots.slices place; marks = remove b.slots.marks place; dropped = set b.slots.dropped slot true; order = order_without b.slots.order place }
      → d ≡ record b { slots = d.slots } → border_view d tree level reach holder ≡ with_slots n (without n.slots (slot_at n place)) (cells_without b.slots place)
  shown_let_go entries slots rest =
      shown_with (without n.slots (slot_at n place)) (cells_without b.slots place) rest entries
      (slots ∙ ap (λ (k : ℕ). record b.slots { slices = remove b.slots.slices place; marks = remove b.slots.marks place; dropped = set b.slots.dropped k true; order = order_without b.slots.order place }) (sym slot_is))
