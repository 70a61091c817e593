-- Slots that hold nothing any more: the live ones hold what they held, for a fill.
use Rattle.std.proofs.Common.{◌≡◌, ◌≢◌, ℕ, zero, suc, ◌<◌, List, [], ◌∷◌, ◌++◌, Bool, true, false, length, get_or, set, drop, refl, ap, ◌∙◌, arith}
use Rattle.std.{proofs.lemmas.List.length-set, specs.{Prelude.if◌then◌else◌, List.All}}
use Rattle.mt_order.proofs.Once.{free_apart}
use Rattle.mt_border.specs.{Held.{Held, Link}, Rows.entries_in, Slots.{Slotted, IsSlotted, emptied, helds_left, helds_of, is_dropped, listed, next_free}}
use Rattle.mt_border.proofs.Slotting.{helds_beside, listed_beside}

-- as many slots as before
pub length-emptied : (hs : List Held) (slots : List ℕ) → length (emptied hs slots) ≡ length hs
length-emptied hs [] = refl
length-emptied hs (slot ∷ slots) = length-emptied (set hs slot (Link 0)) slots ∙ length-set hs slot (Link 0)

-- what is behind the live slots
pub drop_live : (live free : List ℕ) → drop (length live) (live ++ free) ≡ free
drop_live [] free = refl
drop_live (slot ∷ live) free = drop_live live free

-- others hold what they held
beside : (hs : List Held) (live slots : List ℕ) → ((i : ℕ) → i < length slots → All (λ x. x ≢ get_or slots i 0) live) → helds_of (emptied hs slots) live ≡ helds_of hs live
beside hs live [] apart = refl
beside hs live (slot ∷ slots) apart =
    beside (set hs slot (Link 0)) live slots (λ i lt. apart (suc i) (omega (arith, lt))) ∙ helds_beside hs live slot (Link 0) (apart 0 (omega arith))

module _ (s : Slotted) (slotted : IsSlotted s) where
  listed_emptied : listed (record s { helds = emptied s.helds s.order.free }) ≡ listed s
  listed_emptied = ap (entries_in s.slices s.marks) (beside s.helds s.order.live s.order.free (λ i lt. free_apart s.order i slotted.places lt))

  slotted_emptied : IsSlotted (record s { helds = emptied s.helds s.order.free })
  slotted_emptied = record {
    places = slotted.places;
    slices_are = slotted.slices_are;
    marks_are = slotted.marks_are;
    helds_are = length-emptied s.helds s.order.free ∙ slotted.helds_are;
    dropped_are = slotted.dropped_are;
  }

  -- so where they are given up or not
  abbrev left_by : Bool → Slotted
  left_by dropped = record s { helds = if dropped then emptied s.helds s.order.free else s.helds }

  listed_left_by : (dropped : Bool) → listed (left_by dropped) ≡ listed s
  listed_left_by true = listed_emptied
  listed_left_by false = refl

  slotted_left_by : (dropped : Bool) → IsSlotted (left_by dropped)
  slotted_left_by true = slotted_emptied
  slotted_left_by false = slotted

  -- and where the next free slot is written then
  pub listed_filled : (held : Held) → length (listed s) < 15 → listed (record s { helds = set (helds_left s) (next_free s) held }) ≡ listed s
  listed_filled held room =
      let same = listed_left_by (is_dropped s (next_free s)) in
      listed_beside (left_by (is_dropped s (next_free s))) (slotted_left_by (is_dropped s (next_free s))) (omega (arith, room, ap (λ es. length es) same)) held ∙ same

  pub length_left : length (helds_left s) ≡ 15
  length_left = (slotted_left_by (is_dropped s (next_free s))).helds_are

  pub slotted_filled : (held : Held) → IsSlotted (record s { helds = set (helds_left s) (next_free s) held })
  slotted_filled held =
      let left = slotted_left_by (is_dropped s (next_free s)) in
      record {
        places = slotted.places;
        slices_are = slotted.slices_are;
        marks_are = slotted.marks_are;
        helds_are = length-set (helds_left s) (next_free s) held ∙ left.helds_are;
        dropped_are = slotted.dropped_are;
      }

-- nothing is given up if the next free slot was never dropped
pub left_unflagged : (s : Slotted) → is_dropped s (next_free s) ≡ false → helds_left s ≡ s.helds
left_unflagged s unflagged = ap (λ (b : Bool). if b then emptied s.helds s.order.free else s.helds) unflagged
