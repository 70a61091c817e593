-- What the live slots list, through each edit of what they hold and of their order: for the slots of a node and the edits of `Border`.
use Rattle.std.proofs.Common.{◌≡◌, ◌≢◌, ℕ, zero, suc, ◌+◌, ◌<◌, ◌≤◌, List, [], Option, None, Some, ◌∷◌, ◌++◌, length, get_or, set, take, drop, refl, sym, ap, ◌∙◌, inl, inr, arith}
use Rattle.std.proofs.lemmas.Bool.{cases_eq}
use Rattle.std.proofs.lemmas.List.{ext_get_or, map-append, take-map, drop-map, length-map, length-set, get_or-map, get_or-set_same, get_or-set_other, get_or_default, length-take, get_or-append-add, get_or-drop, drop_more, length-append, append_assoc}
use Rattle.std.specs.{Prelude.map, Option.{IfSome, IfNone}, List.{All, insert, remove}}
use Rattle.mt_slices.specs.declared.mark.Mark.{Mark}
use Rattle.mt_order.{specs.Places.{Places, IsPlaces, fifteen, order_with, place_of_slot}, proofs.Once.{live_once, live_below, place_is, no_place, free_apart, free_below}}
use Rattle.mt_border.specs.{declared.entry.Entry.Entry, Held.{Held, Link}, Entries.{slices, marks}, Rows.{entries_in, AreRows}}
use Rattle.mt_border.specs.Slots.{Slotted, IsSlotted, held_in, helds_of, listed, next_free, first_slots}
use Rattle.mt_border.proofs.RowEdits.{length-rows, slices-rows, marks-rows, insert-rows, remove-rows}

-- the rows of the live slots are as long as one another
pub rows_in : (s : Slotted) → IsSlotted s → AreRows s.slices s.marks (helds_of s.helds s.order.live)
rows_in s slotted = record {
  marks_are = slotted.marks_are;
  helds_are = length-map s.order.live (held_in s.helds) ∙ sym slotted.slices_are;
}

-- as many entries as live slots
pub length-listed : (s : Slotted) → IsSlotted s → length (listed s) ≡ length s.order.live
length-listed s slotted =
    let rows = rows_in s slotted in
    length-rows s.slices s.marks (helds_of s.helds s.order.live) rows.marks_are rows.helds_are ∙ slotted.slices_are

-- in their order they have the slices, the marks and as many entries
module _ (s t : Slotted) (slotted : IsSlotted s) (same : s ≡ t) where
  pub slices-listed : slices (listed t) ≡ s.slices
  slices-listed = let rows = rows_in s slotted in
      sym (ap (λ (x : Slotted). slices (listed x)) same) ∙ slices-rows s.slices s.marks (helds_of s.helds s.order.live) rows.marks_are rows.helds_are

  pub marks-listed : marks (listed t) ≡ s.marks
  marks-listed = let rows = rows_in s slotted in
      sym (ap (λ (x : Slotted). marks (listed x)) same) ∙ marks-rows s.slices s.marks (helds_of s.helds s.order.live) rows.marks_are rows.helds_are

  pub size-listed : length (listed t) ≡ length s.order.live
  size-listed = sym (ap (λ (x : Slotted). length (listed x)) same) ∙ length-listed s slotted

-- what an order tells of a slot is its place among the entries
module _ (s t : Slotted) (slot : ℕ) (slotted : IsSlotted s) (same : s ≡ t) where
  pub live_told : (o : Option ℕ) → IfSome o (λ place. (place < length s.order.live) × (get_or s.order.live place 0 ≡ slot)) → IfSome o (λ place. place < length (listed t))
  live_told None told = tt
  live_told (Some place) told = omega (arith, told.0, size-listed s t slotted same)

  pub place_told : (o : Option ℕ) → IfSome o (λ place. (place < length s.order.live) × (get_or s.order.live place 0 ≡ slot)) → IfSome o (λ place. place_of_slot t.order.live slot ≡ place)
  place_told None told = tt
  place_told (Some place) told = rw (← same) (place_is s.order slot place slotted.places told.0 told.1)

  pub none_told : (o : Option ℕ) → IfNone o (All (λ x. x ≢ slot) s.order.live) → IfNone o (length (listed t) ≤ place_of_slot t.order.live slot)
  none_told None told = let past = no_place s.order.live slot told in rw (← same) (omega (arith, past, length-listed s slotted))
  none_told (Some place) told = tt

-- what was read in the slot of a place stands in the row of the live slots
pub held_read : (s : Slotted) (place slot : ℕ) (h : Held) → IsSlotted s → place < length s.order.live → slot ≡ get_or s.order.live place 0 → slot < 15 → h ≡ get_or s.helds slot h
    → h ≡ get_or (helds_of s.helds s.order.live) place h
held_read s place slot h slotted within is below read =
    read ∙ get_or_default s.helds slot h (Link 0) (omega (arith, below, slotted.helds_are)) ∙ ap (held_in s.helds) is
    ∙ sym (get_or-map (held_in s.helds) s.order.live place 0 h within)

-- what is written to another slot leaves what some hold
pub helds_beside : (hs : List Held) (slots : List ℕ) (slot : ℕ) (h : Held) → All (λ x. x ≢ slot) slots → helds_of (set hs slot h) slots ≡ helds_of hs slots
helds_beside hs slots slot h apart =
    ext_get_or (Link 0) (helds_of (set hs slot h) slots) (helds_of hs slots) (length-map slots (held_in (set hs slot h)) ∙ sym (length-map slots (held_in hs))) (λ i lt.
    let within : i < length slots = omega (arith, lt, length-map slots (held_in (set hs slot h))) in
    get_or-map (held_in (set hs slot h)) slots i 0 (Link 0) within ∙ get_or-set_other hs slot (get_or slots i 0) h (Link 0) (apart i 0 within)
    ∙ sym (get_or-map (held_in hs) slots i 0 (Link 0) within))

-- what is written to a live slot comes to stand at its place
pub helds_set : (o : Places) (hs : List Held) (slot place : ℕ) (h : Held) → IsPlaces o → place < length o.live → get_or o.live place 0 ≡ slot → slot < length hs
    → helds_of (set hs slot h) o.live ≡ set (helds_of hs o.live) place h
helds_set o hs slot place h places within is below =
    let size = length-map o.live (held_in hs) in
    let new = length-map o.live (held_in (set hs slot h)) in
    let sizes = length-set (helds_of hs o.live) place h in
    ext_get_or (Link 0) (helds_of (set hs slot h) o.live) (set (helds_of hs o.live) place h) (omega (arith, size, new, sizes)) (λ i lt.
    let here : i < length o.live = omega (arith, lt, new) in
    get_or-map (held_in (set hs slot h)) o.live i 0 (Link 0) here ∙ elim (cases_eq i place) [
      | inl same ↦ rw (same, is) (get_or-set_same hs slot h (Link 0) below ∙ sym (get_or-set_same (helds_of hs o.live) place h (Link 0) (omega (arith, within, size))))
      | inr differ ↦
          let other : get_or o.live i 0 ≢ slot = λ same. differ (live_once o i place places here within (same ∙ sym is)) in
          get_or-set_other hs slot (get_or o.live i 0) h (Link 0) other
          ∙ sym (get_or-set_other (helds_of hs o.live) place i h (Link 0) differ ∙ get_or-map (held_in hs) o.live i 0 (Link 0) here)
    ])

-- one slot more, and one less
helds_insert : (hs : List Held) (slots : List ℕ) (place slot : ℕ) → helds_of hs (insert slots place slot) ≡ insert (helds_of hs slots) place (held_in hs slot)
helds_insert hs slots place slot =
    map-append (held_in hs) (take place slots) (slot ∷ drop place slots) ∙ rw (take-map (held_in hs) place slots, drop-map (held_in hs) place slots) refl

helds_remove : (hs : List Held) (slots : List ℕ) (place : ℕ) → helds_of hs (remove slots place) ≡ remove (helds_of hs slots) place
helds_remove hs slots place =
    map-append (held_in hs) (take place slots) (drop (suc place) slots) ∙ rw (take-map (held_in hs) place slots, drop-map (held_in hs) (suc place) slots) refl

-- a change of all that is held is one of what the slots hold
pub helds_each : (f : Held → Held) (hs : List Held) (slots : List ℕ) → All (λ x. x < length hs) slots → helds_of (map f hs) slots ≡ map f (helds_of hs slots)
helds_each f hs slots within =
    let size = length-map slots (held_in hs) in
    let new = length-map slots (held_in (map f hs)) in
    ext_get_or (Link 0) (helds_of (map f hs) slots) (map f (helds_of hs slots)) (omega (arith, size, new, length-map (helds_of hs slots) f)) (λ i lt.
    let here : i < length slots = omega (arith, lt, new) in
    get_or-map (held_in (map f hs)) slots i 0 (Link 0) here ∙ get_or-map f hs (get_or slots i 0) (Link 0) (Link 0) (within i 0 here)
    ∙ sym (get_or-map f (helds_of hs slots) i (Link 0) (Link 0) (omega (arith, here, size)) ∙ ap f (get_or-map (held_in hs) slots i 0 (Link 0) here)))

-- the live slots are among the fifteen that hold something
pub live_within : (s : Slotted) → IsSlotted s → All (λ x. x < length s.helds) s.order.live
live_within s slotted i d lt = omega (arith, live_below s.order i d slotted.places lt, slotted.helds_are)

-- an entry that comes to a place of the order, in the first free slot
module _ (s : Slotted) (o : Places) (place slot : ℕ) (e : Entry) (slotted : IsSlotted s) (free : s.order.free ≡ slot ∷ o.free) (live : o.live ≡ insert s.order.live place slot) where
  first : get_or s.order.free 0 0 ≡ slot
  first = ap (λ xs. get_or xs 0 0) free

  some : 0 < length s.order.free
  some = omega (arith, ap length free)

  pub slot_below : slot < 15
  slot_below = rw (← first) (free_below s.order 0 slotted.places some)

  pub listed_put : entries_in (insert s.slices place e.slice) (insert s.marks place e.mark) (helds_of (set s.helds slot e.held) o.live) ≡ insert (listed s) place e
  listed_put =
      let rows = rows_in s slotted in
      let apart : All (λ x. x ≢ slot) s.order.live = rw (← first) (free_apart s.order 0 slotted.places some) in
      let below : slot < length s.helds = omega (arith, slot_below, slotted.helds_are) in
      let third : helds_of (set s.helds slot e.held) o.live ≡ insert (helds_of s.helds s.order.live) place e.held =
      ap (helds_of (set s.helds slot e.held)) live ∙ helds_insert (set s.helds slot e.held) s.order.live place slot
      ∙ rw (helds_beside s.helds s.order.live slot e.held apart, get_or-set_same s.helds slot e.held (Link 0) below) refl in
      ap (entries_in (insert s.slices place e.slice) (insert s.marks place e.mark)) third
      ∙ insert-rows s.slices s.marks (helds_of s.helds s.order.live) place e rows.marks_are rows.helds_are

-- the entry at a place of the order is taken out, whose slot is the first free one then
module _ (s : Slotted) (o : Places) (place slot : ℕ) (h : Held) (slotted : IsSlotted s) (within : place < length s.order.live) (places : IsPlaces o)
    (free : o.free ≡ slot ∷ s.order.free) (live : o.live ≡ remove s.order.live place) where
  pub listed_taken : entries_in (remove s.slices place) (remove s.marks place) (helds_of (set s.helds slot h) o.live) ≡ remove (listed s) place
  listed_taken =
      let rows = rows_in s slotted in
      let first : get_or o.free 0 0 ≡ slot = ap (λ xs. get_or xs 0 0) free in
      let apart : All (λ x. x ≢ slot) o.live = rw (← first) (free_apart o 0 places (omega (arith, ap length free))) in
      let third : helds_of (set s.helds slot h) o.live ≡ remove (helds_of s.helds s.order.live) place =
      helds_beside s.helds o.live slot h apart ∙ ap (helds_of s.helds) live ∙ helds_remove s.helds s.order.live place in
      ap (entries_in (remove s.slices place) (remove s.marks place)) third
      ∙ remove-rows s.slices s.marks (helds_of s.helds s.order.live) place rows.marks_are rows.helds_are

-- where what is held stays as it is, a slot that becomes live has its entry listed, and one that becomes free has not
pub listed_live : (s : Slotted) (o : Places) (place slice : ℕ) (mark : Mark) → IsSlotted s → o.live ≡ insert s.order.live place (next_free s)
    → entries_in (insert s.slices place slice) (insert s.marks place mark) (helds_of s.helds o.live) ≡ insert (listed s) place (record { slice = slice; mark = mark; held = held_in s.helds (next_free s) })
listed_live s o place slice mark slotted live =
    let rows = rows_in s slotted in
    ap (entries_in (insert s.slices place slice) (insert s.marks place mark)) (ap (helds_of s.helds) live ∙ helds_insert s.helds s.order.live place (next_free s))
    ∙ insert-rows s.slices s.marks (helds_of s.helds s.order.live) place (record { slice = slice; mark = mark; held = held_in s.helds (next_free s) }) rows.marks_are rows.helds_are

pub listed_freed : (s : Slotted) (o : Places) (place : ℕ) → IsSlotted s → o.live ≡ remove s.order.live place
    → entries_in (remove s.slices place) (remove s.marks place) (helds_of s.helds o.live) ≡ remove (listed s) place
listed_freed s o place slotted live =
    let rows = rows_in s slotted in
    ap (entries_in (remove s.slices place) (remove s.marks place)) (ap (helds_of s.helds) live ∙ helds_remove s.helds s.order.live place)
    ∙ remove-rows s.slices s.marks (helds_of s.helds s.order.live) place rows.marks_are rows.helds_are

-- the free slot that is taken next is not live, and is one of the fifteen
module _ (s : Slotted) (slotted : IsSlotted s) (room : length (listed s) < 15) where
  next_some : 0 < length s.order.free
  next_some = omega (arith, length-append s.order.live s.order.free, slotted.places.total, room, length-listed s slotted)

  pub next_below : next_free s < 15
  next_below = free_below s.order 0 slotted.places next_some

  pub next_apart : All (λ x. x ≢ next_free s) s.order.live
  next_apart = free_apart s.order 0 slotted.places next_some

  -- what is written to it is not listed
  pub listed_beside : (h : Held) → listed (record s { helds = set s.helds (next_free s) h }) ≡ listed s
  listed_beside h = ap (entries_in s.slices s.marks) (helds_beside s.helds s.order.live (next_free s) h next_apart)

-- a slot that was read behind all live ones is the one that is taken next
pub next_read : (s : Slotted) (n slot : ℕ) → n ≡ length s.order.live → slot ≡ get_or (s.order.live ++ s.order.free) n 0 → slot ≡ next_free s
next_read s n slot is read =
    let behind : n ≡ length s.order.live + 0 = omega (arith, is) in
    read ∙ ap (λ k. get_or (s.order.live ++ s.order.free) k 0) behind ∙ get_or-append-add s.order.live s.order.free 0 0

-- to put in behind the first entries and to take out from behind them
pub taken_behind : {X : Type 0} (xs ys : List X) (y : X) → remove (xs ++ y ∷ ys) (length xs) ≡ xs ++ ys
taken_behind [] ys y = refl
taken_behind (x ∷ xs) ys y = ap (λ zs. x ∷ zs) (taken_behind xs ys y)

pub put_behind : {X : Type 0} (xs : List X) (x : X) → insert xs (length xs) x ≡ xs ++ x ∷ []
put_behind [] x = refl
put_behind (z ∷ xs) x = ap (λ zs. z ∷ zs) (put_behind xs x)

-- one more of the entries behind the first ones is moved behind those that were moved
module _ (es left right : List Entry) (keep place : ℕ) (e : Entry) (within : keep + place < length es) (left_is : left ≡ take keep es ++ drop (keep + place) es)
    (right_is : right ++ drop (keep + place) es ≡ drop keep es) (len : length right ≡ place) (read : e ≡ get_or left keep e) where
  kept : length (take keep es) ≡ keep
  kept = omega (arith, length-take keep es, within)

  is_next : get_or es (keep + place) e ≡ e
  is_next =
      let there : length (take keep es) + 0 ≡ keep = omega (arith, kept) in
      let here : keep + place + 0 ≡ keep + place = omega arith in
      sym (read ∙ ap (λ xs. get_or xs keep e) left_is ∙ ap (λ k. get_or (take keep es ++ drop (keep + place) es) k e) (sym there)
      ∙ get_or-append-add (take keep es) (drop (keep + place) es) 0 e ∙ get_or-drop (keep + place) es 0 e ∙ ap (λ k. get_or es k e) here)

  next : drop (keep + place) es ≡ e ∷ drop (keep + (place + 1)) es
  next =
      let on : keep + place + 1 ≡ keep + (place + 1) = omega arith in
      drop_more es (keep + place) e within ∙ ap (λ x. x ∷ drop (keep + place + 1) es) is_next ∙ ap (λ k. e ∷ drop k es) on

  pub moved_left : remove left keep ≡ take keep es ++ drop (keep + (place + 1)) es
  moved_left =
      ap (λ xs. remove xs keep) (left_is ∙ ap (λ xs. take keep es ++ xs) next)
      ∙ ap (remove (take keep es ++ e ∷ drop (keep + (place + 1)) es)) (sym kept) ∙ taken_behind (take keep es) (drop (keep + (place + 1)) es) e

  pub moved_right : insert right place e ++ drop (keep + (place + 1)) es ≡ drop keep es
  moved_right =
      ap (λ k. insert right k e ++ drop (keep + (place + 1)) es) (sym len) ∙ ap (λ xs. xs ++ drop (keep + (place + 1)) es) (put_behind right e)
      ∙ append_assoc right (e ∷ []) (drop (keep + (place + 1)) es) ∙ ap (λ xs. right ++ xs) (sym next) ∙ right_is

-- the first slots are taken one after the other
put_next : (xs : List ℕ) (n : ℕ) → n < length xs → insert (take n xs) n (get_or (drop n xs) 0 0) ≡ take (suc n) xs
put_next [] n below = absurd (omega (arith, below))
put_next (x ∷ xs) zero below = refl
put_next (x ∷ xs) (suc n) below = ap (λ zs. x ∷ zs) (put_next xs n (omega (arith, below)))

drop_next : (xs : List ℕ) (n : ℕ) → drop 1 (drop n xs) ≡ drop (suc n) xs
drop_next [] zero = refl
drop_next [] (suc n) = refl
drop_next (x ∷ xs) zero = refl
drop_next (x ∷ xs) (suc n) = drop_next xs n

pub next_first : (n : ℕ) → n < 15 → order_with (first_slots n) n ≡ first_slots (n + 1)
next_first n below =
    let on : suc n ≡ n + 1 = omega arith in
    ap (λ live. record { live = live; free = drop 1 (drop n fifteen) }) (put_next fifteen n below)
    ∙ ap (λ free. record { live = take (suc n) fifteen; free = free }) (drop_next fifteen n) ∙ ap first_slots on
