-- A write to what one slot of a node holds leaves all else, and the entries in order: for the edits of `Border` that move no slot.
use Rattle.std.proofs.Common.{◌≡◌, ℕ, ◌<◌, List, length, get_or, set, refl, sym, ap, subst, ◌∙◌, inl, inr, arith}
use Rattle.std.proofs.{lemmas.List.{length-set, get_or-set_same, get_or-set_other, get_or_default, get_or-map}, lemmas.Bool.cases_lt}
use Rattle.mt_order.{specs.Places.place_of_slot, proofs.Once.{live_below, slot_there}}
use Rattle.mt_border.specs.{declared.entry.Entry.Entry, Held.Held, Entry.{order_of, CanHold}, Entries.IsBorder, Rows.entries_in}
use Rattle.mt_border.specs.{Slots.{Slotted, IsSlotted, held_in, helds_of, listed}, Node.{Node, entries_of, entry_at, place_at, IsLive, IsNodeSlots, Rewrites}}
use Rattle.mt_border.proofs.{Edits.{any_entry, border_set, replaced_at}, RowEdits.{get_or-rows, set-rows}, Slotting.{rows_in, length-listed, helds_set}}

-- the entries, where one holds something else
abbrev pub set_held : List Entry → ℕ → Held → List Entry
set_held es place held = set es place (record (get_or es place any_entry) { held = held })

-- the slots, where one holds something else
abbrev pub written : Slotted → ℕ → Held → Slotted
written s slot held = record s { helds = set s.helds slot held }

-- a live slot
module _ (s : Slotted) (slot : ℕ) (slotted : IsSlotted s) (live : place_of_slot s.order.live slot < length (listed s)) where
  abbrev place : ℕ
  place = place_of_slot s.order.live slot

  placed : place < length s.order.live
  placed = omega (arith, live, length-listed s slotted)

  slot_is : get_or s.order.live place 0 ≡ slot
  slot_is = slot_there s.order.live slot placed

  -- it is one of the fifteen
  pub slot_within : slot < 15
  slot_within = rw (← slot_is) (live_below s.order place 0 slotted.places placed)

  pub slot_below : slot < length s.helds
  slot_below = omega (arith, slot_within, slotted.helds_are)

  -- what the code reads there is what its entry holds
  pub held_is : (d : Held) → get_or s.helds slot d ≡ (get_or (listed s) place any_entry).held
  held_is d =
      let rows = rows_in s slotted in
      let read = get_or-rows s.slices s.marks (helds_of s.helds s.order.live) place any_entry rows.marks_are rows.helds_are (omega (arith, placed, slotted.slices_are)) in
      get_or_default s.helds slot d any_entry.held slot_below
      ∙ sym (ap (λ (e : Entry). e.held) read ∙ get_or-map (held_in s.helds) s.order.live place 0 any_entry.held placed ∙ ap (held_in s.helds) slot_is)

  -- what it writes there is what its entry holds then
  pub listed_written : (held : Held) → listed (written s slot held) ≡ set_held (listed s) place held
  listed_written held =
      let rows = rows_in s slotted in
      ap (entries_in s.slices s.marks) (helds_set s.order s.helds slot place held slotted.places placed slot_is slot_below)
      ∙ set-rows s.slices s.marks (helds_of s.helds s.order.live) place held any_entry rows.marks_are rows.helds_are (omega (arith, placed, slotted.slices_are))

  pub slotted_written : (held : Held) → IsSlotted (written s slot held)
  slotted_written held = record {
    places = slotted.places;
    slices_are = slotted.slices_are;
    marks_are = slotted.marks_are;
    helds_are = length-set s.helds slot held ∙ slotted.helds_are;
    dropped_are = slotted.dropped_are;
  }

  -- a node's entries stay in order, where the mark allows what is held now
  pub node_written : (held d : Held) → IsBorder (listed s)
      → (CanHold (get_or (listed s) place any_entry).mark (get_or s.helds slot d) → CanHold (get_or (listed s) place any_entry).mark held)
      → IsNodeSlots (written s slot held)
  node_written held d border fits =
      let es = listed s in
      let old = border.each place any_entry live in
      let can : CanHold (get_or es place any_entry).mark held = (rw (held_is d) at fits) old.held in
      record {
        slotted = slotted_written held;
        border = rw (listed_written held)
            (border_set es place (record (get_or es place any_entry) { held = held }) border (record { mark = old.mark; held = can }) (sym (get_or-map order_of es place any_entry 0 live)));
      }

-- that slot is all that changes
pub rewrites : (node : Node) (slot : ℕ) (held : Held) → IsNodeSlots node.slots → IsLive node slot
    → Rewrites node (record node { slots = written node.slots slot held }) slot held
rewrites node slot held sound live =
    let s = node.slots in
    let place = place_at node slot in
    let es = entries_of node in
    let e : Entry = record (entry_at node slot) { held = held } in
    let now = listed_written s slot sound.slotted live held in
    let size = ap length now ∙ length-set es place e in
    record {
      entries = now ∙ sym (replaced_at es place e any_entry sound.border.rising live refl);
      here = ap (λ xs. get_or xs place any_entry) now ∙ get_or-set_same es place e any_entry live;
      live = λ other. (λ lt. omega (arith, lt, size), λ lt. omega (arith, lt, size));
      others = λ other differs. ap (λ xs. get_or xs (place_at node other) any_entry) now ∙ elim (cases_lt (place_at node other) (length es)) [
        | inl there ↦
            let one = slot_there s.order.live slot (omega (arith, live, length-listed s sound.slotted)) in
            let two = slot_there s.order.live other (omega (arith, there, length-listed s sound.slotted)) in
            get_or-set_other es place (place_at node other) e any_entry (λ same. differs (sym two ∙ ap (λ k. get_or s.order.live k 0) same ∙ one))
        | inr past ↦ get_or-set_other es place (place_at node other) e any_entry (λ same. absurd (omega (arith, same, past, live)))
      ];
      helds = refl;
      rest = refl;
    }

-- a write as the code makes it, through a loan of the slots, changes that slot alone
pub rewrites_in : (node : Node) (s : Slotted) (slot : ℕ) (held : Held) → s ≡ node.slots → IsNodeSlots node.slots → IsLive node slot
    → Rewrites node (record node { slots = written s slot held }) slot held
rewrites_in node s slot held same sound live =
    subst (λ t. Rewrites node (record node { slots = written t slot held }) slot held) (sym same) (rewrites node slot held sound live)
