-- What edits keep of cells they keep of what a node shows: for the clauses `keeps`, `live` and `lost` of `Border`.
use Rattle.std.proofs.Common.{◌≡◌, ◌≢◌, ℕ, ◌<◌, ◌≤◌, List, length, get_or, set, Option, Some, None, true, false, refl, sym, ap, subst, ◌∙◌, inl, inr, arith}
use Rattle.std.proofs.{lemmas.Bool.{cases_eq}, lemmas.List.{length-set, get_or-map}, lemmas.List.Edits.length-remove}
use Rattle.std.specs.List.{insert, remove}
use Rattle.mt_slices.specs.{declared.mark.Mark.Mark, declared.mark.Mark.TheVariants.Long}
use Rattle.mt_version.specs.Parts.{fresh_parts}
use Rattle.mt_order.{specs.Places.{place_of_slot, order_with, order_without}, proofs.Once.slot_there}
use Rattle.mt_border.specs.{declared.entry.Entry.Entry, Held.{Pair, Held, Stable, Unstable, Link}, Entry.{IsStablePair, IsUnlinked, IsLinked}}
use Rattle.mt_border.specs.{Slots.{Slotted, IsSlotted, held_in, listed, next_free, is_dropped}, Node.{Node, IsNodeSlots}}
use Rattle.mt_border.specs.Keeps.{GoesOn, IsLiveIn, slice_in, mark_in, KeepsSlots, HasEntry, entry_in, KeepsEntry, KeepsEntries, LosesOnly}
use Rattle.mt_border.proofs.{Edits.any_entry, Slotting.{length-listed, slices-listed, marks-listed, listed_beside}, Writes.{held_is, slot_within, written, slotted_written, rewrites}}
use Rattle.mt_border.proofs.KeptSlots.{kept_two, kept_fills, kept_publishes, kept_lets_go, kept_rewrites, live_published, live_left, goes_same, goes_on}

-- a live slot of cells has an entry, which has its slice and mark, and holds what stands in it
module _ (s : Slotted) (slotted : IsSlotted s) (slot : ℕ) where
  pub has_entry : IsLiveIn s slot → HasEntry (listed s) s slot
  has_entry live = omega (arith, live, length-listed s slotted)

  pub is_live : HasEntry (listed s) s slot → IsLiveIn s slot
  is_live live = omega (arith, live, length-listed s slotted)

  module _ (live : HasEntry (listed s) s slot) where
    slice_there : (entry_in (listed s) s slot).slice ≡ slice_in s slot
    slice_there =
        let place = place_of_slot s.order.live slot in
        sym (get_or-map (λ (e : Entry). e.slice) (listed s) place any_entry 0 live) ∙ ap (λ xs. get_or xs place 0) (slices-listed s s slotted refl)

    mark_there : (entry_in (listed s) s slot).mark ≡ mark_in s slot
    mark_there =
        let place = place_of_slot s.order.live slot in
        sym (get_or-map (λ (e : Entry). e.mark) (listed s) place any_entry Long live) ∙ ap (λ xs. get_or xs place Long) (marks-listed s s slotted refl)

    pub held_there : held_in s.helds slot ≡ (entry_in (listed s) s slot).held
    held_there = held_is s slot slotted live (Link 0)

pub shown : (s t : Slotted) → IsSlotted s → IsSlotted t → KeepsSlots s t → KeepsEntries (listed s) s (listed t) t
shown s t first second keeps slot below =
    let k = keeps slot below in
    record {
      flag = k.flag;
      live = λ l. elim (k.live (is_live s first slot l)) [
        | inl on ↦ inl (has_entry t second slot on)
        | inr off ↦ inr (off.0, λ m. off.1 (is_live t second slot m))
      ];
      slice = λ l m. slice_there t second slot m ∙ k.slice (is_live s first slot l) (is_live t second slot m) ∙ sym (slice_there s first slot l);
      mark = λ l m. mark_there t second slot m ∙ k.mark (is_live s first slot l) (is_live t second slot m) ∙ sym (mark_there s first slot l);
      held = λ l m. subst (λ h. GoesOn h (entry_in (listed t) t slot).held) (held_there s first slot l)
          (subst (GoesOn (held_in s.helds slot)) (held_there t second slot m) (k.held (is_live s first slot l)));
      free = λ f d. let one = k.free (λ l. f (has_entry s first slot l)) d in (λ m. one.0 (is_live t second slot m), one.1);
    }

-- nothing is done
pub entries_none : (es : List Entry) (s : Slotted) → KeepsEntries es s es s
entries_none es s slot below = record {
  flag = λ f. f;
  live = λ l. inl l;
  slice = λ l m. refl;
  mark = λ l m. refl;
  held = λ l m. goes_same (entry_in es s slot).held;
  free = λ f d. (f, refl);
}

-- two steps, one after the other
pub entries_two : (es : List Entry) (s : Slotted) (fs : List Entry) (t : Slotted) (gs : List Entry) (u : Slotted) → KeepsEntries es s fs t → KeepsEntries fs t gs u → KeepsEntries es s gs u
entries_two es s fs t gs u first second slot below =
    let a = first slot below in
    let b = second slot below in
    record {
      flag = λ f. b.flag (a.flag f);
      live = λ l. elim (a.live l) [
        | inl on ↦ b.live on
        | inr off ↦ inr (b.flag off.0, (b.free off.1 off.0).0)
      ];
      slice = λ l m. elim (a.live l) [
        | inl on ↦ b.slice on m ∙ a.slice l on
        | inr off ↦ absurd ((b.free off.1 off.0).0 m)
      ];
      mark = λ l m. elim (a.live l) [
        | inl on ↦ b.mark on m ∙ a.mark l on
        | inr off ↦ absurd ((b.free off.1 off.0).0 m)
      ];
      held = λ l m. elim (a.live l) [
        | inl on ↦ goes_on (entry_in es s slot).held (entry_in fs t slot).held (entry_in gs u slot).held (a.held l on) (b.held on m)
        | inr off ↦ absurd ((b.free off.1 off.0).0 m)
      ];
      free = λ f d. let one = a.free f d in let two = b.free one.0 (a.flag d) in (two.0, two.1 ∙ one.1);
    }

-- what a live slot holds goes on
pub shown_written : (s t : Slotted) (slot : ℕ) (held : Held) → s ≡ t → IsNodeSlots s → HasEntry (listed s) s slot → GoesOn (entry_in (listed s) s slot).held held
    → KeepsEntries (listed t) t (listed (written s slot held)) (written s slot held)
shown_written s t slot held same sound live on =
    let old : Node = record { slots = s; next = None; previous = None; parent = None; low = 0; high = None; version = fresh_parts false true } in
    let new : Node = record old { slots = written s slot held } in
    subst (λ u. KeepsEntries (listed u) u (listed new.slots) new.slots) same
    (shown s new.slots sound.slotted (slotted_written s slot sound.slotted live held) (kept_rewrites old new slot held sound live (rewrites old slot held sound live) on))

-- the free slot that is taken next is written
module _ (s : Slotted) (slotted : IsSlotted s) (room : length (listed s) < 15) (held : Held) where
  abbrev filled : Slotted
  filled = record s { helds = set s.helds (next_free s) held }

  slotted_filled : IsSlotted filled
  slotted_filled = record {
    places = slotted.places;
    slices_are = slotted.slices_are;
    marks_are = slotted.marks_are;
    helds_are = length-set s.helds (next_free s) held ∙ slotted.helds_are;
    dropped_are = slotted.dropped_are;
  }

  pub shown_filled : is_dropped s (next_free s) ≡ false → KeepsEntries (listed s) s (listed filled) filled
  shown_filled unflagged = shown s filled slotted slotted_filled (kept_fills s held slotted room unflagged)

  -- and is live then
  pub shown_published : (t : Slotted) (place slice : ℕ) (mark : Mark) → IsSlotted t → place ≤ length s.order.live
      → t ≡ record s { slices = insert s.slices place slice; marks = insert s.marks place mark; helds = set s.helds (next_free s) held; order = order_with s.order place }
      → is_dropped s (next_free s) ≡ false → KeepsEntries (listed s) s (listed t) t
  shown_published t place slice mark after within is unflagged =
      let few : length (listed filled) < 15 = omega (arith, ap length (listed_beside s slotted room held), room) in
      shown s t slotted after (rw is (kept_two s filled _ (kept_fills s held slotted room unflagged) (kept_publishes filled place slice mark slotted_filled few within unflagged)))

-- a slot that is live stays so where another one is made live
pub still_published : (s t : Slotted) (place slice : ℕ) (mark : Mark) (helds : List Held) → IsSlotted s → IsSlotted t → length (listed s) < 15 → place ≤ length s.order.live
    → t ≡ record s { slices = insert s.slices place slice; marks = insert s.marks place mark; helds = helds; order = order_with s.order place }
    → (slot : ℕ) → HasEntry (listed s) s slot → HasEntry (listed t) t slot
still_published s t place slice mark helds slotted after room within is slot live =
    has_entry t after slot (rw is (live_published s place slotted room within slot (is_live s slotted slot live)))

-- where one is dropped
module _ (s t : Slotted) (place slot : ℕ) (slotted : IsSlotted s) (after : IsSlotted t) (within : place < length s.order.live) (slot_is : get_or s.order.live place 0 ≡ slot)
    (is : t ≡ record s { slices = remove s.slices place; marks = remove s.marks place; dropped = set s.dropped slot true; order = order_without s.order place }) where
  kept : KeepsSlots s t
  kept = rw (is, ← slot_is) (kept_lets_go s place slotted within)

  pub shown_let_go : KeepsEntries (listed s) s (listed t) t
  shown_let_go = shown s t slotted after kept

  pub lost_one : LosesOnly (listed s) s (listed t) t slot
  lost_one other live gone = (
    elim (cases_eq other slot) [
      | inl same ↦ same
      | inr differ ↦ absurd (gone (has_entry t after other (rw is (live_left s place slotted within other (is_live s slotted other live) (λ same. differ (same ∙ slot_is))))))
    ],
    ap (λ (u : Slotted). held_in u.helds other) is ∙ held_there s slotted other live,
  )

-- a pair, one without a tree, and one with its tree
pub stable_is : (h : Held) → IsStablePair h → (pair : Pair) × (h ≡ Stable pair)
stable_is (Stable pair) stable = (pair, refl)
stable_is (Unstable pair tree) stable = absurd stable
stable_is (Link u) stable = absurd stable

pub unlinked_is : (h : Held) → IsUnlinked h → (pair : Pair) × (h ≡ Unstable pair None)
unlinked_is (Stable pair) unlinked = absurd unlinked
unlinked_is (Unstable pair tree) unlinked = (pair, ap (Unstable pair) unlinked)
unlinked_is (Link u) unlinked = absurd unlinked

pub linked_is : (h : Held) → IsLinked h → (pair : Pair) × (tree : ℕ) × (h ≡ Unstable pair (Some tree))
linked_is (Stable pair) linked = absurd linked
linked_is (Unstable pair None) linked = absurd (linked refl)
linked_is (Unstable pair (Some tree)) linked = (pair, tree, refl)
linked_is (Link u) linked = absurd linked

-- what was held goes on as what is held now
pub on_as : (a b h held : Held) → h ≡ a → held ≡ b → GoesOn a b → GoesOn h held
on_as a b h held was now on = subst (λ x. GoesOn x held) (sym was) (subst (GoesOn a) (sym now) on)
